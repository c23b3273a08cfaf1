-- Refused as a file, refused at line 1, or read on from line 2.
use Rattle.std.proofs.Common.{sym, ap, ◌∙◌, rules}
use Rattle.sheet.specs.Sheet.{refusal, file_refusal}
use Rattle.sheet.proofs.Naming.{refuses, refused, passed, handed_on}
use Rattle.sheet.proofs.Laws.{file_ok, file_whole, sheet_file, sheet_setup, sheet_words, word_lines, second_line}
use Rattle.sheet.proofs.ask_sheet.Goals as goal

pub returns-in_err-ask_file-clause-refusal : goal.returns-in_err-ask_file-clause-refusal
returns-in_err-ask_file-clause-refusal c =
    let s = c.args.s.now in
    let no = c.in_err-ask_file.ensures in
    handed_on _ _ c.from_residual.ensures.1 ∙ no ∙ sym (sheet_file s (refuses c.in_err-ask_file.field-0.0 (file_refusal s) no))

pub returns-in_err-map_err-clause-refusal : goal.returns-in_err-map_err-clause-refusal
returns-in_err-map_err-clause-refusal c =
    let s = c.args.s.now in
    let ok = file_ok s c.in_ok-ask_file.ensures in
    let no = refused c.args.asked c.map_err.result 1 _ c.map_err.ensures.cases (λ q e k. search rules) _ _ c.in_err-map_err.was c.from_residual-in_err-map_err.ensures.1 in
    no.0 ∙ ap (λ q. refusal q 1) c.requires.2 ∙ sym (sheet_setup s c.args.line.now ok c.requires.1 (λ z. no.1 (c.requires.2 ∙ z)))

pub read_words-requires : goal.read_words-requires
read_words-requires c =
    let s = c.args.s.now in
    let ok = file_ok s c.in_ok-ask_file.ensures in
    let w = file_whole s ok in
    let second = second_line s c.args.line.now ok c.requires.1 in
    (c.requires.0, second.0, w.1, w.2, second.1)

pub returns-clause-refusal : goal.returns-clause-refusal
returns-clause-refusal c =
    let s = c.args.s.now in
    let ok = file_ok s c.in_ok-ask_file.ensures in
    let yes = passed c.args.asked c.map_err.result 1 _ c.map_err.ensures.cases (λ q e k. search rules) _ c.in_ok-map_err.was in
    c.read_words.ensures.refusal ∙ sym (sheet_words s c.args.line.now ok c.requires.1 (sym c.requires.2 ∙ yes.0))

pub returns-clause-mem_after : goal.returns-clause-mem_after
returns-clause-mem_after c =
    let s = c.args.s.now in
    let ok = file_ok s c.in_ok-ask_file.ensures in
    rw (word_lines s c.args.line.now ok c.requires.1) c.read_words.ensures.mem_after
