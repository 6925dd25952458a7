use Rattle.std.proofs.Common.{◌≡◌, ◌∙◌, ℕ, List, Some, map, slice_get, sym, ap, subst}
use Rattle.std.specs.Option.{option_map}
use Rattle.std.specs.List.{AllByRecursion}
use Rattle.proof_form.specs.declared.numerals.Numeral.{Numeral}
use Rattle.proof_form.specs.Lines as form
use Rattle.proof_names.specs.Numbers.{index_in}
use Rattle.proof_names.specs.Options.{all_some}
use Rattle.proof_names.specs.Naming.{IsPredOf, IsEntryIn, MayBegin}
use Rattle.proof_names.proofs.PairLaws.{is_got}
use Rattle.proof_names.proofs.NodeLaws.{no_preds, named_preds, named_entry, refused}
use Rattle.proof_names.proofs.nodes.node_named.Goals as goal
use Rattle.proof_names.proofs.nodes.node_named.Goals.{else-are_preds_of-via-then-are_preds_of+else-is_entered, else-are_preds_of-via-else-are_preds_of}

pub returns-in_default-2 : goal.returns-in_default-2
returns-in_default-2 c =
    no_preds c.args.icfg.now (slice_get c.args.preds.now) (map form.node c.args.lines.now) c.args.number (form.node c.args.line.now)
    (sym (ap (option_map (λ v. v.items)) c.in_default-2.is) ∙ c.in_ok-numbers.ensures ∙ ap (λ (l : List Numeral). all_some (map index_in l)) c.deref.ensures.value)

pub returns-else-are_preds_of : goal.returns-else-are_preds_of
returns-else-are_preds_of c = λ x h.
    let g = c.args.icfg.now in
    let preds = slice_get c.args.preds.now in
    let lines = map form.node c.args.lines.now in
    let line = form.node c.args.line.now in
    let place = c.in-Some-Some.place in
    let p = c.in-Some.field-0.now in
    let e : Some p ≡ slice_get g.place_procs place = sym (is_got c.place_procs.result.now c.in-Some-Some.place c.in-Some.field-0.now c.in-Some.ensures.lookup.3.0 c.in-Some.ensures.lookup.1) ∙
    ap (λ (l : List ℕ). slice_get l c.in-Some-Some.place) c.place_procs.ensures.value in
    elim c.else-are_preds_of.branch [
      | else-are_preds_of-via-then-are_preds_of+else-is_entered w ↦
          refused (IsEntryIn g p lines c.in-Some-Some.entry × (c.in-Some-Some.entry ≡ c.args.number → MayBegin g p place)) w.is_entered.result w.is_entered.ensures w.if-is_entered.false
          (named_entry g preds lines c.args.number line place p c.in-Some-Some.entry c.in-Some-Some.ensures e c.in-Some-Some.ensures' x h)
      | else-are_preds_of-via-else-are_preds_of w ↦
          refused (AllByRecursion (IsPredOf preds p) c.deref-2.result.now) c.are_preds_of.result c.are_preds_of.ensures w.if-are_preds_of.false
          (subst (AllByRecursion (IsPredOf preds p)) (sym c.deref-2.ensures.value) (named_preds g preds lines c.args.number line place p c.in-Some-2.numbers.items c.in-Some-Some.ensures e
          (sym (ap (option_map (λ v. v.items)) c.in-Some-2.is) ∙ c.in_ok-numbers.ensures ∙ ap (λ (l : List Numeral). all_some (map index_in l)) c.deref.ensures.value) x h))
    ]

pub returns-then-is_entered : goal.returns-then-is_entered
returns-then-is_entered c =
    let e : Some c.in-Some.field-0.now ≡ slice_get c.args.icfg.now.place_procs c.in-Some-Some.place = sym (is_got c.place_procs.result.now c.in-Some-Some.place c.in-Some.field-0.now c.in-Some.ensures.lookup.3.0 c.in-Some.ensures.lookup.1) ∙
    ap (λ (l : List ℕ). slice_get l c.in-Some-Some.place) c.place_procs.ensures.value in
    let entered = c.is_entered.ensures.0 c.if-is_entered.true in
    record {
      proc = c.in-Some.field-0.now;
      place = sym c.in-Some-Some.ensures;
      exists = sym e;
      preds_are =
          sym (sym (ap (option_map (λ v. v.items)) c.in-Some-2.is) ∙ c.in_ok-numbers.ensures ∙ ap (λ (l : List Numeral). all_some (map index_in l)) c.deref.ensures.value);
      scoped = subst (AllByRecursion (IsPredOf (slice_get c.args.preds.now) c.in-Some.field-0.now)) c.deref-2.ensures.value (c.are_preds_of.ensures.0 c.if-are_preds_of.true);
      entry = sym c.in-Some-Some.ensures';
      is_entry = entered.0;
      begins = entered.1;
    }
