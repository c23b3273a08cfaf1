-- Each element is a field's number.
use Rattle.std.proofs.Common.{◌≡◌, length, get_or, sym, ◌∙◌, arith, rules}
use Rattle.std.proofs.lemmas.List.{same_lists, length-map}
use lib.ListN.{get_or-map}
use Rattle.text.specs.declared.row.Field.{Field}
use Rattle.text.specs.Split.{values_of}
use Rattle.text.proofs.row.values.Goals as goal

pub returns : goal.returns
returns g c =
    let fs = c.args.fields in
    let numbers = c.map.result in
    let map_of = c.map.ensures.items in
    let long : length fs ≡ g.row.N = search rules in
    same_lists numbers (values_of fs) (omega (arith, map_of.long, length-map fs (λ f. f.value)))
    (λ k d h.
    let none : Field = record { value = d; width = 0 } in
    let call = map_of.at k none d (omega (arith, map_of.long)) in
    let same : get_or numbers k d ≡ (get_or fs k none).value = search rules in
    same ∙ sym (get_or-map (λ f. f.value) fs k none))
