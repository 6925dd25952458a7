-- The letters of an accepted word are those of the graph's alphabet.
use Rattle.std.proofs.Common.{◌≡◌, ℕ, List, [], ◌∷◌, sym, subst, inl, inr}
use Rattle.std.specs.Prelude.{IsSome}
use Rattle.std.specs.List.{AllByRecursion}
use Rattle.nwa_base.specs.declared.letters.Kind.{Kind}
use Rattle.nwa_base.specs.declared.letters.Kind.TheVariants.{Inside, Call, Back}
use Rattle.nwa_base.specs.declared.letters.Letter.{Letter}
use Rattle.nwa_base.specs.Members.{Member}
use Rattle.nwa_base.specs.Acceptance.{Follows, AcceptsFrom, Accepts}
use Rattle.letter_acts.specs.Acts.{act_of}
use Rattle.letter_acts.specs.Invariant.{Graph, IsGraph, alphabet_of, InsideFollows, CallFollows, BackFollows}
use Rattle.letter_acts.specs.Kept.{Keeps}
use Rattle.nested_itp.specs.declared.nested_predicates.layout.Layout.{Layout}
use Rattle.nested_itp.specs.NestedPredicates.Walking.{AreLetters}
use Rattle.nested_itp.specs.NestedPredicates.Layouts.{IsLayout}

pub kept_graph : (g : Graph) → Keeps g → IsGraph g
unfolding Keeps
kept_graph g h = h

all_member : {X : Type 0} (P : X → Type 0) (xs : List X) (x : X) → Member xs x → AllByRecursion P xs → P x
all_member P [] x m h = absurd m
all_member P (y ∷ ys) x m h = elim m [ inl e ↦ subst P e h.0 | inr k ↦ all_member P ys x k h.1 ]

letters_from : (g : Graph) → IsGraph g → (before : List ℕ) (q : ℕ) (w : List Letter) → AcceptsFrom g.automaton before q w → AreLetters (alphabet_of g) w
letters_from g ok before q [] h = tt
letters_from g ok before q (a ∷ w) h = by_kind a.kind before h.1 (λ stack k. letters_from g ok stack h.0 w k)
  where
    by_kind : (kind : Kind) (stack : List ℕ) → Follows g.automaton kind a stack q h.0 (λ st. AcceptsFrom g.automaton st h.0 w) →
        ((st : List ℕ) → AcceptsFrom g.automaton st h.0 w → AreLetters (alphabet_of g) w) → IsSome (act_of (alphabet_of g) a) × AreLetters (alphabet_of g) w
    by_kind Inside stack f r = ((all_member (InsideFollows g) g.automaton.insides (q, a, h.0) f.0 ok.edges.insides).letter, r stack f.1)
    by_kind Call stack f r = ((all_member (CallFollows g) g.automaton.calls (q, a, h.0) f.0 ok.edges.calls).letter, r (q ∷ stack) f.1)
    by_kind Back [] f r = absurd f
    by_kind Back (p ∷ stack) f r = ((all_member (BackFollows g) g.automaton.backs (q, p, a, h.0) f.0 ok.edges.backs).letter, r stack f.1)

pub accepted_letters : (g : Graph) → Keeps g → (w v : List Letter) → Accepts g.automaton v → w ≡ v → AreLetters (alphabet_of g) w
accepted_letters g k w v h e = subst (AreLetters (alphabet_of g)) (sym e) (letters_from g (kept_graph g k) [] g.automaton.start v h)

pub made_layout : (g : Graph) (w v : List Letter) (l : Layout) → w ≡ v → IsLayout g w l → IsLayout g v l
made_layout g w v l e h = subst (λ (x : List Letter). IsLayout g x l) e h
