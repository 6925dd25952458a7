use Rattle.std.proofs.Common.{◌+◌, ◌++◌, ◌∙◌, List, ℕ, drop, ap, sym}
use Rattle.letter_acts.specs.Invariant.{names_where}
use Rattle.letter_acts.specs.Checks.{is_named_by}
use Rattle.letter_acts.proofs.DistinctLemmas.{bytes_of, gathered_more, gathered_all}
use Rattle.letter_acts.proofs.NamingLemmas.{name_in_front, no_name_in_front, no_names_left}
use Rattle.letter_acts.proofs.checks.naming.names_of.Goals as goal
use Rattle.letter_acts.proofs.checks.naming.names_of.Goals.{then-is_named_by+in_ok-push, else-is_named_by}

pub loop-column-preserved : goal.loop-column-preserved
loop-column-preserved c =
    let test = is_named_by c.args.global in
    let frame = c.args.frame.now in
    let i = c.loop-column.column-index in
    let got = c.loop-column.names.items in
    let behind = names_where test (drop (i + 1) frame) in
    elim c.if-is_named_by.branch [
      | then-is_named_by+in_ok-push w ↦
          gathered_more got c.if-is_named_by.names.items w.bytes.result c.column-item.result.1.name behind (names_where test frame)
          (ap (λ v. v.items) w.names-is ∙ w.in_ok-push.ensures.items) w.bytes.ensures
          (ap (λ (ns : List (List ℕ)). bytes_of got ++ ns)
          (sym (name_in_front test frame i c.column-item.result c.column-item.result c.column-item.is c.loop-column-test.true (sym c.is_named_by.ensures ∙ w.if-is_named_by.true)))
          ∙ c.loop-column.invariant)
      | else-is_named_by w ↦
          ap (λ v. bytes_of v.items ++ behind) w.names-is
          ∙ ap (λ (ns : List (List ℕ)). bytes_of got ++ ns)
          (sym (no_name_in_front test frame i c.column-item.result c.column-item.result c.column-item.is c.loop-column-test.true (sym c.is_named_by.ensures ∙ w.if-is_named_by.false)))
          ∙ c.loop-column.invariant
    ]

pub returns : goal.returns
returns c =
    let test = is_named_by c.args.global in
    gathered_all c.loop-column.names.items (names_where test (drop c.loop-column.column-index c.args.frame.now)) (names_where test c.args.frame.now)
    (no_names_left test c.args.frame.now c.loop-column.column-index c.loop-column-test.false) c.loop-column.invariant
