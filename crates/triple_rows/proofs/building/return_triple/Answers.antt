use Rattle.std.proofs.Common.{◌≡◌, ◌∙◌, ℕ, ◌+◌, ◌<◌, List, length, refl, sym, ap, subst}
use Rattle.std.specs.List.{AllByRecursion}
use Rattle.math_facts.specs.Terms.{IsBelow}
use Rattle.letter_acts.specs.Invariant.{call_width, written_by}
use Rattle.triple_rows.specs.Systems.{after_column, call_column}
use Rattle.triple_rows.specs.Ties.Tables.{IsTable}
use Rattle.triple_rows.proofs.PieceLaws.{sliced, from_first}
use Rattle.triple_rows.proofs.building.return_triple.Goals as goal

own_count : (n : ℕ) (to : ℕ → ℕ) (columns : List ℕ) → IsTable n to columns → IsTable (length columns) to columns
own_count n to columns h = record { count = refl; value = λ c l. h.value c (subst (λ (m : ℕ). c < m) h.count l); differ = h.differ }

pub add_return-requires-clause-rows_within : goal.add_return-requires-clause-rows_within
add_return-requires-clause-rows_within c =
    let e : length c.deref-6.result.now ≡ call_width c.args.caller.now c.args.callee.now c.args.helpers =
    ap (λ (l : List ℕ). length l) c.deref-6.ensures.value ∙ c.in_ok-in_rows.ensures.count in
    subst (λ (n : ℕ). AllByRecursion (λ r. IsBelow n r.terms) c.args.rows.now) (sym e) c.requires.known.rows_within

pub add_return-requires-clause-tables : goal.add_return-requires-clause-tables
add_return-requires-clause-tables c =
    let m = length c.args.callee.now in
    let n = length c.args.caller.now in
    let written = written_by c.args.caller.now c.args.targets.now in
    let w : c.deref.result.now ≡ written = c.deref.ensures.value ∙ c.in_ok-written.ensures in
    let k : c.len.result ≡ length written = c.len.ensures ∙ sym c.deref.ensures.len ∙ ap (λ (l : List ℕ). length l) w in
    record {
      exit = from_first m c.deref-3.result.now (sliced m (λ c. 0 + c) c.deref-3.result.now c.in_ok-at_exit.at_exit.items c.deref-3.ensures.value c.in_ok-at_exit.ensures.table);
      call = sliced n (λ c. m + c) c.deref-4.result.now c.in_ok-at_call.at_call.items c.deref-4.ensures.value c.in_ok-at_call.ensures.table;
      end =
          sliced n (after_column m (m + n) written) c.deref-5.result.now c.in_ok-at_end.at_end.items c.deref-5.ensures.value
          (subst (λ (l : List ℕ). IsTable n (after_column m (m + n) l) c.in_ok-at_end.at_end.items) w c.in_ok-at_end.ensures);
      rows =
          own_count (n + m + c.args.helpers) (call_column m n (length written)) c.deref-6.result.now
          (sliced (n + m + c.args.helpers) (call_column m n (length written)) c.deref-6.result.now c.in_ok-in_rows.in_rows.items c.deref-6.ensures.value
          (subst (λ (j : ℕ). IsTable (n + m + c.args.helpers) (call_column m n j) c.in_ok-in_rows.in_rows.items) k c.in_ok-in_rows.ensures));
    }
