-- Words that are read set by set.
use Rattle.std.proofs.Common.{◌≡◌, ◌↔◌, ℕ, List, [], ◌∷◌, ◌++◌, map, refl, sym, ap, subst, inl, inr}
use Rattle.nwa_base.specs.Members.{Member}
use Rattle.nwa_base.specs.declared.letters.Kind.{Kind}
use Rattle.nwa_base.specs.declared.letters.Kind.TheVariants.{Inside, Call, Back}
use Rattle.nwa_base.specs.declared.letters.Letter.{Letter}
use Rattle.nwa_base.specs.Acceptance.{Accepts}
use Rattle.nwa_base.specs.Automata.{Automaton}
use Rattle.nwa_base.specs.Pairs.{SomeAccepts, IsSupported, HasFinal, LettersOn}
use Rattle.nwa_base.proofs.Steps.{inside_on, call_on, back_on, at_start, at_end}
use Rattle.nwa_determinise.specs.Kept.{Kept, set_at}
use Rattle.nwa_determinise.specs.Reads.{LeadsTo, Reads, ReadsFromStart}

-- the sets of these numbers, innermost first
abbrev pub sets_from : Kept → ℕ → List ℕ → List (List (ℕ × ℕ))
sets_from d s before = set_at d s ∷ map (set_at d) before

letter_on : (d : Kept) (kind : Kind) (a : Letter) (before mid : List ℕ) (s r : ℕ) → a.kind ≡ kind →
    LeadsTo d kind a before s mid r → LettersOn d.nwa a (sets_from d s before) (sets_from d r mid)
letter_on d Inside a before mid s r i h =
    subst (λ (l : List ℕ). LettersOn d.nwa a (sets_from d s before) (sets_from d r l)) (sym h.3)
    (inside_on d.nwa a (set_at d s) (set_at d r) (map (set_at d) before) i h.2)
letter_on d Call a before mid s r i h =
    subst (λ (l : List ℕ). LettersOn d.nwa a (sets_from d s before) (sets_from d r l)) (sym h.3)
    (call_on d.nwa a (set_at d s) (set_at d r) (map (set_at d) before) i h.2)
letter_on d Back a [] mid s r i h = absurd h
letter_on d Back a (b ∷ before) mid s r i h =
    subst (λ (l : List ℕ). LettersOn d.nwa a (sets_from d s (b ∷ before)) (sets_from d r l)) (sym h.4)
    (back_on d.nwa a (set_at d b) (set_at d s) (set_at d r) (map (set_at d) before) i h.3)

-- what the word leads to accepts the empty word exactly where the word is accepted, and is supported
record ReadOn (m : Automaton) (w : List Letter) (sets last : List (List (ℕ × ℕ))) : Type 0 where
  same : SomeAccepts m sets w ↔ SomeAccepts m last []
  supported : IsSupported m.start sets → IsSupported m.start last

read_on : (d : Kept) (w : List Letter) (before after : List ℕ) (s t : ℕ) → Reads d before s w after t →
    ReadOn d.nwa w (sets_from d s before) (sets_from d t after)
read_on d [] before after s t h =
    subst (λ (l : List ℕ). ReadOn d.nwa [] (sets_from d s before) (sets_from d t l)) h.0
    (subst (λ (n : ℕ). ReadOn d.nwa [] (sets_from d s before) (sets_from d n before)) h.1 (record { same = (λ k. k, λ k. k); supported = λ k. k }))
read_on d (a ∷ w) before after s t h =
    let f = letter_on d a.kind a before h.0 s h.1 refl h.2 in
    let g = read_on d w h.0 after h.1 t h.3 in
    let e = f.same w in
    let k = g.same in
    record { same = (λ x. k.0 (e.0 x), λ x. e.1 (k.1 x)); supported = λ v. g.supported (f.supported v) }

started : (d : Kept) (n : ℕ) → set_at d n ≡ (d.nwa.start, d.nwa.start) ∷ [] → IsSupported d.nwa.start (sets_from d n [])
started d n e k q h = start_key k q (subst (λ (l : List (ℕ × ℕ)). Member {X = ℕ × ℕ} l (k, q)) e h)
  where
    start_key : (k q : ℕ) → Member {X = ℕ × ℕ} ((d.nwa.start, d.nwa.start) ∷ []) (k, q) → k ≡ d.nwa.start
    start_key k q (inl i) = sym (ap (λ (x : ℕ × ℕ). x.0) i)
    start_key k q (inr i) = absurd i

-- a word that leads to a set is accepted exactly where a pair of the set ends in a final state
pub accepted_by_set : (d : Kept) (w : List Letter) (t : ℕ) → ReadsFromStart d w t → HasFinal d.nwa (set_at d t) ↔ Accepts d.nwa w
accepted_by_set d w t h =
    let r = read_on d w [] h.calls h.first t h.reads in
    let begin = at_start d.nwa w in
    let end = at_end d.nwa (set_at d t) (map (set_at d) h.calls) (r.supported (started d h.first h.start)) in
    let same = r.same in
    let to : SomeAccepts d.nwa (((d.nwa.start, d.nwa.start) ∷ []) ∷ []) w → SomeAccepts d.nwa (sets_from d h.first []) w =
    λ x. subst (λ (l : List (ℕ × ℕ)). SomeAccepts d.nwa (l ∷ []) w) (sym h.start) x in
    let «from» : SomeAccepts d.nwa (sets_from d h.first []) w → SomeAccepts d.nwa (((d.nwa.start, d.nwa.start) ∷ []) ∷ []) w =
    λ x. subst (λ (l : List (ℕ × ℕ)). SomeAccepts d.nwa (l ∷ []) w) h.start x in
    (λ x. begin.0 («from» (same.1 (end.1 x))), λ x. end.0 (same.0 (to (begin.1 x))))

-- one letter more
pub reads_last : (d : Kept) (w : List Letter) (a : Letter) (before after : List ℕ) (s r t : ℕ) (mid : List ℕ) →
    Reads d before s w mid r → LeadsTo d a.kind a mid r after t → Reads d before s (w ++ a ∷ []) after t
reads_last d [] a before after s r t mid h g =
    let l : LeadsTo d a.kind a before s after t =
    subst (λ (n : ℕ). LeadsTo d a.kind a before n after t) (sym h.1)
    (subst (λ (b : List ℕ). LeadsTo d a.kind a b r after t) (sym h.0) g) in
    (after, t, l, (refl, refl))
reads_last d (b ∷ w) a before after s r t mid h g = (h.0, h.1, h.2, reads_last d w a h.0 after h.1 r t mid h.3 g)

-- the same by the answer of a test
pub accepts_by_test : (d : Kept) (s : ℕ) (P : Type 0) → P ↔ HasFinal d.nwa (set_at d s) → (w : List Letter) → ReadsFromStart d w s → P ↔ Accepts d.nwa w
accepts_by_test d s P t w h = let a = accepted_by_set d w s h in (λ x. a.0 (t.0 x), λ x. t.1 (a.1 x))
