-- Two live views as one.
use Rattle.std.proofs.Common.{◌≡◌, ℕ, ◌+◌, ◌<◌, ◌≤◌, ◌⊎◌, inl, inr, Bool, true, false, if◌then◌else◌, List, ◌++◌, length, sym, ◌∙◌, refl, Option, None, Some, arith, ⊎_elim}
use Rattle.nwa_base.specs.Automata.{Automaton}
use Rattle.race_core.specs.declared.ends.End.{End}
use Rattle.race_core.specs.declared.ends.EndKind.{EndKind}
use Rattle.race_core.specs.declared.events.Entry.{Entry}
use Rattle.version_cell.specs.declared.board.Sight.{Sight}
use Rattle.version_cell.specs.Counts.{times, count, Begins}
use Rattle.version_cell.specs.Views.{first_of, picks_first, both_of}
use Rattle.version_cell.specs.Ties.Rule.{IsLive}
use Rattle.version_cell.proofs.Sums.{times_either, none_some}
use Rattle.version_cell.proofs.Beginnings.{begins_same, begins_along, begins_length, one_begins}

module _ {E : Type 0} where
  -- what the first view has seen begins what the second has, and a kind of end that the first has seen the second has seen,
  -- with the same history
  abbrev pub Before : Sight E → Sight E → Type 0
  Before v w = Begins v.seen w.seen × ((k : EndKind) → v.ended ≡ Some k → (v.seen ≡ w.seen) × (w.ended ≡ Some k))

  pub before_itself : (v : Sight E) → Before v v
  before_itself v = (begins_same v.seen v.seen refl, (λ k q. (refl, q)))

-- the end that two own is that of one of them
pub first_count : {X : Type 0} (a b : Option X) → count a + count b ≤ 1 → count (first_of a b) ≡ count a + count b
first_count None b le = omega arith
first_count (Some x) None le = refl
first_count (Some x) (Some y) le = absurd (omega (arith, le))

pub first_either : {X : Type 0} (a b : Option X) (x : X) → first_of a b ≡ Some x → (a ≡ Some x) ⊎ (b ≡ Some x)
first_either None b x e = inr e
first_either (Some y) b x e = inl e

module _ {E : Type 0} (program : Automaton) (limit all : ℕ) where
  -- a view that has seen an end has seen all that another has
  before_ended : (h : List (Entry E)) (e : Option End) (v w : Sight E) (k : EndKind) → IsLive program limit all h e v →
      IsLive program limit all h e w → w.ended ≡ Some k → Before v w
  before_ended h e v w k l m q =
      let d = m.ended k q in (
        begins_along v.seen h w.seen l.seen (sym d.1),
        (λ k' q'. let d' = l.ended k' q' in (d'.1 ∙ sym d.1, q ∙ (sym d.0 ∙ d'.0))),
      )

  -- of two views the one that has seen less and no end
  before_longer : (h : List (Entry E)) (e : Option End) (v w : Sight E) → IsLive program limit all h e v →
      IsLive program limit all h e w → v.ended ≡ None → length v.seen ≤ length w.seen → Before v w
  before_longer h e v w l m none le =
      (one_begins v.seen w.seen h l.seen m.seen le, (λ k q. absurd (none_some k (sym none ∙ q))))

  second_before : (h : List (Entry E)) (e : Option End) (v w : Sight E) (a b : Option EndKind) → v.ended ≡ a → w.ended ≡ b →
      IsLive program limit all h e v → IsLive program limit all h e w →
      picks_first a b (length v.seen) (length w.seen) ≡ true → Before w v
  second_before h e v w (Some k) b p q l m first = before_ended h e w v k m l p
  second_before h e v w None (Some k) p q l m first = cc
  second_before h e v w None None p q l m first = before_longer h e w v m l q (grind arith)

  first_before : (h : List (Entry E)) (e : Option End) (v w : Sight E) (a b : Option EndKind) → v.ended ≡ a → w.ended ≡ b →
      IsLive program limit all h e v → IsLive program limit all h e w →
      picks_first a b (length v.seen) (length w.seen) ≡ false → Before v w
  first_before h e v w (Some k) b p q l m first = cc
  first_before h e v w None (Some k) p q l m first = before_ended h e v w k l m q
  first_before h e v w None None p q l m first = before_longer h e v w l m p (grind arith)

  -- the joined view, where what was picked is the first's or the second's
  abbrev picked : Bool → Sight E → Sight E → Sight E
  picked first v w =
      record v {
        shares = v.shares + w.shares;
        seen = if first then v.seen else w.seen;
        ended = if first then v.ended else w.ended;
        own = v.own ++ w.own;
        finish = first_of v.finish w.finish;
        told = if first then w.seen else v.seen;
        told_ended = if first then w.ended else v.ended;
        held = None;
      }

  both_finish : (h : List (Entry E)) (e : Option End) (v w : Sight E) → IsLive program limit all h e v →
      IsLive program limit all h e w → (x : End) → first_of v.finish w.finish ≡ Some x → e ≡ Some x
  both_finish h e v w l m x q = ⊎_elim (λ a. l.finish x a) (λ b. m.finish x b) (first_either v.finish w.finish x q)

  both_below : (h : List (Entry E)) (e : Option End) (v w : Sight E) (n : ℕ) → IsLive program limit all h e v →
      IsLive program limit all h e w → length v.seen ≤ n → length w.seen ≤ n → (p : ℕ) → 0 < times p (v.own ++ w.own) → p < n
  both_below h e v w n l m a b p s =
      ⊎_elim (λ o. let c = l.below p o in omega arith) (λ o. let c = m.below p o in omega arith) (times_either p v.own w.own s)

  live_picked : (h : List (Entry E)) (e : Option End) (v w : Sight E) → IsLive program limit all h e v →
      IsLive program limit all h e w → (first : Bool) → (first ≡ true → Before w v) → (first ≡ false → Before v w) →
      IsLive program limit all h e (picked first v w)
  live_picked h e v w l m true earlier later =
      let y = earlier refl in
      record {
        program_is = l.program_is;
        limit_is = l.limit_is;
        total_is = l.total_is;
        seen = l.seen;
        ended = l.ended;
        finish = both_finish h e v w l m;
        below = both_below h e v w (length v.seen) l m (omega arith) (begins_length w.seen v.seen y.0);
        held = λ x q. absurd (none_some x q);
        told = y.0;
        told_ended = y.1;
      }
  live_picked h e v w l m false earlier later =
      let n = later refl in
      record {
        program_is = l.program_is;
        limit_is = l.limit_is;
        total_is = l.total_is;
        seen = m.seen;
        ended = m.ended;
        finish = both_finish h e v w l m;
        below = both_below h e v w (length w.seen) l m (begins_length v.seen w.seen n.0) (omega arith);
        held = λ x q. absurd (none_some x q);
        told = n.0;
        told_ended = n.1;
      }

  pub live_both : (h : List (Entry E)) (e : Option End) (v w : Sight E) → IsLive program limit all h e v →
      IsLive program limit all h e w → IsLive program limit all h e (both_of v w)
  live_both h e v w l m =
      live_picked h e v w l m (picks_first v.ended w.ended (length v.seen) (length w.seen))
      (second_before h e v w v.ended w.ended refl refl l m) (first_before h e v w v.ended w.ended refl refl l m)
