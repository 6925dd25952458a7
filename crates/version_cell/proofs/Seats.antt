-- The rule's part on views when the view of one seat changes.
use Rattle.std.proofs.Common.{◌≡◌, ◌≢◌, ℕ, ◌+◌, ◌<◌, ◌≤◌, List, [], ◌∷◌, ◌++◌, length, set, sym, ap, ◌∙◌, subst, refl, Option, None, Some, arith, ⊎_elim}
use mathlib.Core.Option as maybe
use lib.ListN.{get_elem?}
use Rattle.nwa_base.specs.Automata.{Automaton}
use Rattle.race_core.specs.declared.ends.End.{End}
use Rattle.race_core.specs.declared.events.Entry.{Entry}
use Rattle.atomic_table.proofs.Lists.{at_set, set_else, at_snoc}
use Rattle.version_cell.specs.declared.board.Held.{Held}
use Rattle.version_cell.specs.declared.board.Sight.{Sight}
use Rattle.version_cell.specs.Counts.{total, times, once_below, count}
use Rattle.version_cell.specs.Views.{nobody, lessened, part_of, both_of}
use Rattle.version_cell.specs.Ties.Rule.{IsLive, Fits, Views}
use Rattle.version_cell.proofs.Sums.{total_set, total_one, total_two, total_append, total_only, times_append, count_one, count_none, count_most}
use Rattle.version_cell.proofs.Lives.{live_lessened, live_part}
use Rattle.version_cell.proofs.Joined.{live_both, first_count}

module _ {E : Type 0} (program : Automaton) (limit all : ℕ) where
  fits_live : (h : List (Entry E)) (e : Option End) (w : Sight E) → 0 < w.shares → IsLive program limit all h e w →
      Fits program limit all h e w
  fits_live h e w some l = record { spent = λ none. absurd (omega (arith, some, none)); live = λ s. l }

  fits_nobody : (h : List (Entry E)) (e : Option End) → Fits program limit all h e nobody
  fits_nobody h e = record { spent = λ none. refl; live = λ s. absurd (omega (arith, s)) }

  pub live_of : (h : List (Entry E)) (e : Option End) (t id : ℕ) (v : Sight E) (views : List (Sight E)) →
      Views program limit all h e t views → get_elem? views id ≡ maybe.some v → 0 < v.shares → IsLive program limit all h e v
  live_of h e t id v views k at some = (k.each id v at).live some

  pub views_set : (h h' : List (Entry E)) (e e' : Option End) (t t' id : ℕ) (v w : Sight E) (views : List (Sight E)) →
      Views program limit all h e t views → get_elem? views id ≡ maybe.some v → 0 < v.shares → w.shares ≡ v.shares →
      IsLive program limit all h' e' w →
      ((j : ℕ) (u : Sight E) → j ≢ id → get_elem? views j ≡ maybe.some u → IsLive program limit all h e u → IsLive program limit all h' e' u) →
      ((p : ℕ) → times p w.own + once_below p (length h) ≡ times p v.own + once_below p (length h')) →
      count w.finish + count e ≡ count v.finish + count e' → count w.held + t ≡ count v.held + t' →
      Views program limit all h' e' t' (set views id w)
  views_set h h' e e' t t' id v w views k at some shares live others own ends holders =
      record {
        each = λ j u there.
            ⊎_elim
            (λ same. let P : Sight E → Type 0 = λ x. Fits program limit all h' e' x in subst P same.1 (fits_live h' e' w (omega (arith, some, shares)) live))
            (λ other. let f = k.each j u other.1 in record { spent = f.spent; live = λ s. others j u other.0 other.1 (f.live s) })
            (at_set views id j w u there);
        shares =
            let s = total_set (λ (u : Sight E). u.shares) views id v w at in let a = k.shares in omega (arith, s, a, shares);
        own = λ p.
            let s = total_set (λ (u : Sight E). times p u.own) views id v w at in let a = k.own p in let o = own p in omega (arith, s, a, o);
        ends = let s = total_set (λ (u : Sight E). count u.finish) views id v w at in let a = k.ends in omega (arith, s, a, ends);
        holders = let s = total_set (λ (u : Sight E). count u.held) views id v w at in let a = k.holders in omega (arith, s, a, holders);
      }

  -- beside a holder no other view holds anything
  pub other_is_free : (h : List (Entry E)) (e : Option End) (t id j : ℕ) (v u : Sight E) (x : Held E) (views : List (Sight E)) →
      Views program limit all h e t views → t ≤ 1 → get_elem? views id ≡ maybe.some v → v.held ≡ Some x → j ≢ id →
      get_elem? views j ≡ maybe.some u → u.held ≡ None
  other_is_free h e t id j v u x views k le at holds n there =
      let two = total_two (λ (y : Sight E). count y.held) views id j v u n at there in
      let a = k.holders in let c = count_one v.held x holds in
      count_none u.held (omega (arith, two, a, c, le))

  -- a holder has the turn
  pub turn_is_held : (h : List (Entry E)) (e : Option End) (t id : ℕ) (v : Sight E) (x : Held E) (views : List (Sight E)) →
      Views program limit all h e t views → get_elem? views id ≡ maybe.some v → v.held ≡ Some x → 0 < t
  turn_is_held h e t id v x views k at holds =
      let one = total_one (λ (y : Sight E). count y.held) views id v at in
      let a = k.holders in let c = count_one v.held x holds in omega (arith, one, a, c)

  -- where no end is set no view owns one
  pub no_finish : (h : List (Entry E)) (e : Option End) (t id : ℕ) (v : Sight E) (views : List (Sight E)) →
      Views program limit all h e t views → get_elem? views id ≡ maybe.some v → e ≡ None → count v.finish ≡ 0
  no_finish h e t id v views k at none =
      let one = total_one (λ (y : Sight E). count y.finish) views id v at in
      let a = k.ends in let c : count e ≡ 0 = ap count none in omega (arith, one, a, c)

  pub views_split : (h : List (Entry E)) (e : Option End) (t id : ℕ) (v : Sight E) (views : List (Sight E)) →
      Views program limit all h e t views → get_elem? views id ≡ maybe.some v → 1 < v.shares → v.held ≡ None →
      Views program limit all h e t (set views id (lessened v) ++ part_of v ∷ [])
  views_split h e t id v views k at some free =
      let l = live_of h e t id v views k at (omega (arith, some)) in
      let left = set views id (lessened v) in
      record {
        each = λ j u there.
            let P : Sight E → Type 0 = λ x. Fits program limit all h e x in
            ⊎_elim
            (λ old. ⊎_elim
            (λ same. subst P same.1 (fits_live h e (lessened v) (omega (arith, some)) (live_lessened program limit all h e v l)))
            (λ other. k.each j u other.1)
            (at_set views id j (lessened v) u old))
            (λ new. subst P new (fits_live h e (part_of v) (omega arith) (live_part program limit all h e v l)))
            (at_snoc left (part_of v) u j there);
        shares =
            let s = total_set (λ (u : Sight E). u.shares) views id v (lessened v) at in
            let b = total_append (λ (u : Sight E). u.shares) left (part_of v) in let a = k.shares in omega (arith, s, a, b, some);
        own = λ p.
            let s = total_set (λ (u : Sight E). times p u.own) views id v (lessened v) at in
            let b = total_append (λ (u : Sight E). times p u.own) left (part_of v) in let a = k.own p in omega (arith, s, a, b);
        ends =
            let s = total_set (λ (u : Sight E). count u.finish) views id v (lessened v) at in
            let b = total_append (λ (u : Sight E). count u.finish) left (part_of v) in let a = k.ends in omega (arith, s, a, b);
        holders =
            let s = total_set (λ (u : Sight E). count u.held) views id v (lessened v) at in
            let b = total_append (λ (u : Sight E). count u.held) left (part_of v) in let a = k.holders in omega (arith, s, a, b);
      }

  pub views_join : (h : List (Entry E)) (e : Option End) (t id other : ℕ) (v w : Sight E) (views : List (Sight E)) →
      Views program limit all h e t views → get_elem? views id ≡ maybe.some v → (other ≡ id → ⊥) →
      get_elem? (set views id (both_of v w)) other ≡ maybe.some w → 0 < v.shares → 0 < w.shares → v.held ≡ None → w.held ≡ None →
      Views program limit all h e t (set (set views id (both_of v w)) other nobody)
  views_join h e t id other v w views k at differ there some some' free free' =
      let both = both_of v w in
      let middle = set views id both in
      let before : get_elem? views other ≡ maybe.some w = sym (set_else views id other both differ) ∙ there in
      let l = live_of h e t id v views k at some in
      let m = live_of h e t other w views k before some' in
      let two = total_two (λ (u : Sight E). count u.finish) views id other v w differ at before in
      let ends = k.ends in
      let most = count_most e in
      let finish = first_count v.finish w.finish (omega (arith, two, ends, most)) in
      let f = ap count free in
      let f' = ap count free' in
      record {
        each = λ j u at'.
            let P : Sight E → Type 0 = λ x. Fits program limit all h e x in
            ⊎_elim
            (λ same. subst P same.1 (fits_nobody h e))
            (λ old. ⊎_elim
            (λ same. subst P same.1 (fits_live h e both (omega (arith, some)) (live_both program limit all h e v w l m)))
            (λ rest. k.each j u rest.1)
            (at_set views id j both u old.1))
            (at_set middle other j nobody u at');
        shares =
            let s = total_set (λ (u : Sight E). u.shares) views id v both at in
            let r = total_set (λ (u : Sight E). u.shares) middle other w nobody there in let a = k.shares in omega (arith, s, a, r);
        own = λ p.
            let s = total_set (λ (u : Sight E). times p u.own) views id v both at in
            let r = total_set (λ (u : Sight E). times p u.own) middle other w nobody there in
            let a = k.own p in let c = times_append p v.own w.own in omega (arith, s, a, r, c);
        ends =
            let s = total_set (λ (u : Sight E). count u.finish) views id v both at in
            let r = total_set (λ (u : Sight E). count u.finish) middle other w nobody there in omega (arith, s, ends, r, finish);
        holders =
            let s = total_set (λ (u : Sight E). count u.held) views id v both at in
            let r = total_set (λ (u : Sight E). count u.held) middle other w nobody there in
            let a = k.holders in omega (arith, s, a, r, f, f');
      }

  -- what the rule knows beside a view that has all shares: every other view is spent
  pub whole_only : (f : Sight E → ℕ) → f nobody ≡ 0 → (h : List (Entry E)) (e : Option End) (t id : ℕ) (v : Sight E) (views : List (Sight E)) →
      Views program limit all h e t views → get_elem? views id ≡ maybe.some v → v.shares ≡ all → total f views ≡ f v
  whole_only f none h e t id v views k at whole =
      total_only f views id v at
      (λ j u n there.
      let two = total_two (λ (y : Sight E). y.shares) views id j v u n at there in
      let a = k.shares in
      let spent = (k.each j u there).spent (omega (arith, two, a, whole)) in ap f spent ∙ none)
