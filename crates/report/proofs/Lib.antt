pub mod Laws
pub mod Results
pub mod Cases
pub mod LineNumbers
pub mod DefaultBudget
pub mod Forms
