use Rattle.std.proofs.Common.{◌≡◌, ℕ, ◌+◌, ◌++◌, Bool, true, false, not, Vec, Global, reverse, drop, get_or, [], ◌∷◌, refl, nat_eq, ap, sym, ◌∙◌}
use Rattle.std.specs.List.{list_any}
use Rattle.std.specs.BTreeSet.{contains}
use Rattle.std.specs.Ordering.{nat_cmp}
use Rattle.std.proofs.lemmas.List.{get_or_default}
use Rattle.boogie_types.specs.Sorted.{firsts}
use Rattle.boogie_types.proofs.ModifiedLaws.{passed_turn, kept_turn, seen_turn, unseen_turn}
use Rattle.boogie_types.proofs.modifies.firsts.Goals as goal
use Rattle.boogie_types.proofs.modifies.firsts.Goals.{then-branch+in_ok-push, else-branch}

was : (b a : Bool) → a ≡ not b → a ≡ true → b ≡ false
was true a e h = cc
was false a e h = refl

had : (b a : Bool) → a ≡ not b → a ≡ false → b ≡ true
had true a e h = refl
had false a e h = cc

pub loop-number-preserved : goal.loop-number-preserved
loop-number-preserved c =
    let xs = c.args.numbers.now in
    let i = c.loop-number.number-index in
    let n = get_or xs i 0 in
    let here : n ≡ get_or xs i n = get_or_default xs i 0 n c.loop-number-test.true in
    let old = c.loop-number.firsts.items in
    let seen = c.loop-number.invariant.seen in
    let added = c.in_ok-insert.ensures.added in
    let updates = c.in_ok-insert.ensures.updates.0 in
    elim c.if-branch.branch [
      | then-branch+in_ok-push w ↦
          let h : list_any (nat_eq n) (reverse old) ≡ false = sym (seen n) ∙ was (contains nat_cmp c.loop-number.seen n) c.in_ok-insert.field-0 added w.if-branch.true in
          let p : c.if-branch.firsts.items ≡ old ++ n ∷ [] = ap (λ (v : Vec ℕ Global). v.items) w.firsts-is ∙ w.in_ok-push.ensures.items in
          record {
            kept = kept_turn xs i n c.loop-number-test.true here old c.if-branch.firsts.items _ h p c.loop-number.invariant.kept;
            seen = seen_turn xs i n c.loop-number-test.true here old c.if-branch.firsts.items (contains nat_cmp c.loop-number.seen) (contains nat_cmp c.insert.new.self) p seen updates;
          }
      | else-branch w ↦
          let h : list_any (nat_eq n) (reverse old) ≡ true = sym (seen n) ∙ had (contains nat_cmp c.loop-number.seen n) c.in_ok-insert.field-0 added w.if-branch.false in
          let p : c.if-branch.firsts ≡ c.loop-number.firsts = w.firsts-is in
          record {
            kept = ap (λ (v : Vec ℕ Global). v.items ++ firsts (reverse v.items) (drop (i + 1) xs)) p ∙ passed_turn xs i n c.loop-number-test.true here old _ h c.loop-number.invariant.kept;
            seen = λ k. unseen_turn xs i n c.loop-number-test.true here old (contains nat_cmp c.loop-number.seen) (contains nat_cmp c.insert.new.self) h seen updates k ∙ ap (λ (v : Vec ℕ Global). list_any (nat_eq k) (reverse v.items)) (sym p);
          }
    ]
