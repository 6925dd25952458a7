-- The product of the start alone.
use Rattle.std.proofs.Common.{◌≡◌, ◌∙◌, ◌↔◌, ◌<◌, ℕ, zero, suc, List, [], ◌∷◌, Option, length, Bool, true, false, cond, IsTrue, refl, sym, ap, subst, inl, arith}
use Rattle.indexmap.specs.IndexSet.{insert_key}
use Rattle.nwa_base.specs.Members.{Member}
use Rattle.nwa_base.specs.Automata.{Automaton, IsAutomaton}
use Rattle.nwa_determinise.specs.Kept.{Kept, set_at, Grows}
use Rattle.nwa_difference.specs.Covering.{HaveCovers}
use Rattle.nwa_difference.specs.Ties.Making.{Made, first_at, number_at, Ends, IsMade}

-- the automaton of a start alone
abbrev pub start_alone : Bool → Automaton
start_alone b = record { states = 1; start = 0; finals = cond b (0 ∷ []) []; insides = []; calls = []; backs = [] }

is_automaton : (b : Bool) → IsAutomaton (start_alone b)
is_automaton true = record { start = omega arith; finals = (omega arith, tt); insides = tt; calls = tt; backs = tt }
is_automaton false = record { start = omega arith; finals = tt; insides = tt; calls = tt; backs = tt }

is_final : (b : Bool) (P : Type 0) → IsTrue b ↔ P → Member (start_alone b).finals 0 ↔ P
is_final true P t = (λ h. t.0 refl, λ h. inl refl)
is_final false P t = (λ h. absurd h, λ h. absurd (let e : false ≡ true = t.1 h in cc))

module _ (a : Automaton) (sets : Kept) (covers : List (Option ℕ)) (s : ℕ) (b : Bool) where
  abbrev alone : Made
  alone = record { first = a; sets = sets; covers = covers; product = start_alone b; states = (a.start, s) ∷ [] }

  number : (x : ℕ) → x < 1 → s < length sets.sets → number_at alone x < length sets.sets
  number zero l i = i
  number (suc x) l i = absurd (omega arith)

  final : (x : ℕ) → x < 1 → IsTrue b ↔ Ends a sets a.start s → Member (start_alone b).finals x ↔ Ends a sets (first_at alone x) (number_at alone x)
  final zero l t = is_final b (Ends a sets a.start s) t
  final (suc x) l t = absurd (omega arith)

  alone_made : HaveCovers a sets.nwa covers → s < length sets.sets → set_at sets s ≡ (sets.nwa.start, sets.nwa.start) ∷ [] → IsTrue b ↔ Ends a sets a.start s → IsMade alone
  alone_made c i e t = record {
    automaton = is_automaton b;
    count = refl;
    small = omega arith;
    covers = c;
    numbers = λ x l. number x l i;
    are = record { inside = λ x y l m. absurd m; call = λ x y l m. absurd m; back = λ x p y l m. absurd m };
    finals = λ x l. final x l t;
    start = refl;
    start_set = e;
  }

-- a product of the start alone, which is known by its parts
pub begun : (a b : Automaton) (covers : List (Option ℕ)) (before sets : Kept) (q s : ℕ) (e : Bool) (product : Automaton) (states : List (ℕ × ℕ)) →
    HaveCovers a b covers → before ≡ record { nwa = b; sets = [] } →
    Grows before sets → q ≡ a.start → s < length sets.sets → set_at sets s ≡ (before.nwa.start, before.nwa.start) ∷ [] → IsTrue e ↔ Ends a sets q s →
    product ≡ start_alone e → states ≡ (q, s) ∷ [] →
    IsMade (record { first = a; sets = sets; covers = covers; product = product; states = states }) × (a ≡ a) × (sets.nwa ≡ b)
begun a b covers before sets q s e product states c f g h i k t p u =
    let same : (sets.nwa.start, sets.nwa.start) ≡ (before.nwa.start, before.nwa.start) = ap (λ (m : Automaton). (m.start, m.start)) g.nwa in
    let there : set_at sets s ≡ (sets.nwa.start, sets.nwa.start) ∷ [] = k ∙ ap (λ (z : ℕ × ℕ). z ∷ []) (sym same) in
    let second : sets.nwa ≡ b = g.nwa ∙ ap (λ (d : Kept). d.nwa) f in
    let one = alone_made a sets covers s e (subst (λ (m : Automaton). HaveCovers a m covers) (sym second) c) i there (subst (λ (z : ℕ). IsTrue e ↔ Ends a sets z s) h t) in (
      subst (λ (m : Automaton). IsMade (record { first = a; sets = sets; covers = covers; product = m; states = states })) (sym p)
          (subst (λ (l : List (ℕ × ℕ)). IsMade (record { first = a; sets = sets; covers = covers; product = start_alone e; states = l })) (sym u)
          (subst (λ (z : ℕ). IsMade (record { first = a; sets = sets; covers = covers; product = start_alone e; states = (z, s) ∷ [] })) (sym h) one)),
      refl,
      second,
    )

-- the first key
pub one_key : {X : Type 0} (eq : X → X → Bool) (old new : List X) (x : X) → old ≡ [] → new ≡ insert_key eq old x → new ≡ x ∷ []
one_key {X} eq old new x e f = f ∙ ap (λ (l : List X). insert_key eq l x) e
