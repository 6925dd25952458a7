-- The triples of an accepted word's letters are those of its steps.
use Rattle.std.proofs.Common.{◌≡◌, ◌∙◌, ℕ, suc, List, [], ◌∷◌, ◌++◌, length, map, refl, sym, ap, subst, arith, Option, Some}
use Rattle.std.proofs.lemmas.List.{map-append}
use Rattle.nwa_base.specs.declared.letters.Kind.{Kind}
use Rattle.nwa_base.specs.declared.letters.Kind.TheVariants as kinds
use Rattle.nwa_base.specs.declared.letters.Letter.{Letter}
use Rattle.nwa_base.specs.Acceptance.{Follows, AcceptsFrom, Accepts}
use Rattle.letter_acts.specs.Acts.{PlainAct, call_act, back_act, Alphabet, act_of}
use Rattle.letter_acts.specs.Invariant.{Graph, IsGraph, alphabet_of}
use Rattle.path_rows.specs.Versions.{PathStage}
use Rattle.path_rows.proofs.EdgeLemmas.{BackEdge, inside_acts, call_acts, back_acts}
use Rattle.farkas_check.specs.Trees.{Tree}
use Rattle.triple_rows.specs.declared.triples.Scoped.{Scoped}
use Rattle.triple_rows.specs.declared.triples.Triple.{Triple}
use Rattle.nested_itp.specs.NestedPredicates.Positions.{CallScope, Position, position_at, positions_along}
use Rattle.nested_itp.specs.NestedPredicates.Interpolants.{interpolant_at, prefix_predicates, return_triple, letter_triple, left, saved_after, triples_along}
use Rattle.nested_itp.specs.NestedRefutations.Numbers.{OpenCall, Step, Reading, position_here, open_after, read_on, steps_back, step_by, steps_along, steps_of}
use Rattle.nested_itp.proofs.NestedRefutations.AlongLaws.{first_reading}

-- the triples of steps
abbrev pub triples_in : List Step → List Triple
triples_in steps = map (λ s. s.triple) steps

-- the predicates before the open calls
abbrev saved_by : Graph → List Letter → Tree → List OpenCall → List Scoped
saved_by g w t calls = map (λ c. interpolant_at g w t c.before) calls

-- a letter with this act gives one triple, and opens or closes a call as its kind says
record LetterGives (g : Graph) (w : List Letter) (t : Tree) (a : Letter) (rest : List Letter) (r : Reading) (to : Position) (end : ℕ) (kind : Kind) (act : Option PlainAct) : Type 0 where
  places : List ℕ
  accepts : AcceptsFrom g.automaton places end rest
  triple : triples_in (step_by g w t a.id act rest r to) ≡ letter_triple kind a.id (interpolant_at g w t (position_here r)) (saved_by g w t r.calls) (interpolant_at g w t to)
  saved : saved_after kind (interpolant_at g w t (position_here r)) (saved_by g w t r.calls) ≡ saved_by g w t (open_after act r)
  counted : length (open_after act r) ≡ length places

letter_gives : (g : Graph) (w : List Letter) (t : Tree) → IsGraph g → (a : Letter) (rest : List Letter) (r : Reading) (to : Position) (places : List ℕ) (x end : ℕ) →
    length r.calls ≡ length places → (kind : Kind) → a.kind ≡ kind → Follows g.automaton kind a places x end (λ st. AcceptsFrom g.automaton st end rest) →
    LetterGives g w t a rest r to end kind (act_of (alphabet_of g) a)
letter_gives g w t ok a rest r to places x end l kinds.Inside k f =
    let b = inside_acts g ok x end a f.0 in
    subst (λ (o : Option PlainAct). LetterGives g w t a rest r to end kinds.Inside o) (sym b.act_is)
    (record { places = places; accepts = f.1; triple = refl; saved = refl; counted = l })
letter_gives g w t ok a rest r to places x end l kinds.Call k f =
    let b = call_acts g ok x end a f.0 in
    subst (λ (o : Option PlainAct). LetterGives g w t a rest r to end kinds.Call o) (sym b.act_is)
    (record { places = x ∷ places; accepts = f.1; triple = refl; saved = refl; counted = ap suc l })
letter_gives g w t ok a rest r to [] x end l kinds.Back k f = absurd f
letter_gives g w t ok a rest r to (p ∷ places) x end l kinds.Back k f =
    let b = back_acts g ok x p end a k f.0 in
    subst (λ (o : Option PlainAct). LetterGives g w t a rest r to end kinds.Back o) (sym b.act_is) (by_calls b r.calls refl b.known.targets)
  where
    by_calls : BackEdge g x p a end → (calls : List OpenCall) → r.calls ≡ calls → (targets : List ℕ) → LetterGives g w t a rest r to end kinds.Back (Some (back_act a.call targets))
    by_calls b [] e targets = absurd (let n : length r.calls ≡ 0 = ap length e in omega (arith, n, l))
    by_calls b (c ∷ calls) e targets =
        let act : Option PlainAct = Some (back_act a.call targets) in
        let from : Scoped = interpolant_at g w t (position_here r) in
        let after : Scoped = interpolant_at g w t to in
        let called : Option PlainAct = Some (call_act b.known.caller b.known.callee b.known.helpers b.known.rows) in
        record {
          places = places;
          accepts = f.1;
          triple = ap (λ (o : Option PlainAct). triples_in (steps_back g w t a.id targets r.calls (position_here r) to o)) b.known.call ∙
              ap (λ (cs : List OpenCall). triples_in (steps_back g w t a.id targets cs (position_here r) to called)) e ∙
              sym (ap (λ (cs : List OpenCall). return_triple a.id from (saved_by g w t cs) after) e);
          saved = subst (λ (cs : List OpenCall). left (saved_by g w t cs) ≡ saved_by g w t (open_after act (record r { calls = cs }))) (sym e) refl;
          counted = subst (λ (cs : List OpenCall). length (open_after act (record r { calls = cs })) ≡ length places) (sym e)
              (let n : length r.calls ≡ suc (length calls) = ap length e in omega (arith, n, l));
        }

-- the triples of a letter and of those behind it, at positions that begin with one
letter_first : (f : Position → Scoped) (from : Scoped) (saved : List Scoped) (a : Letter) (rest : List Letter) (al : Alphabet) (n : ℕ) (p : PathStage) (scopes : List CallScope) →
    triples_along (a ∷ rest) (from ∷ map f (positions_along al n p scopes rest)) saved ≡
    letter_triple a.kind a.id from saved (f (position_at n p scopes)) ++ triples_along rest (map f (positions_along al n p scopes rest)) (saved_after a.kind from saved)
letter_first f from saved a [] al n p scopes = refl
letter_first f from saved a (b ∷ rest) al n p scopes = refl

from_reading : (g : Graph) (w : List Letter) (t : Tree) → IsGraph g → (rest : List Letter) (r : Reading) (places : List ℕ) (x : ℕ) → length r.calls ≡ length places → AcceptsFrom g.automaton places x rest →
    triples_in (steps_along g w t r rest) ≡ triples_along rest (map (interpolant_at g w t) (positions_along (alphabet_of g) r.letters r.stage r.scopes rest)) (saved_by g w t r.calls)
from_reading g w t ok [] r places x l acc = refl
from_reading g w t ok (a ∷ rest) r places x l acc =
    let al : Alphabet = alphabet_of g in
    let next : Reading = read_on al a rest r in
    let k = letter_gives g w t ok a rest r (position_here next) places x acc.0 l a.kind refl acc.1 in
    let first : List Step = step_by g w t a.id (act_of al a) rest r (position_here next) in
    let preds : List Scoped = map (interpolant_at g w t) (positions_along al next.letters next.stage next.scopes rest) in
    let from : Scoped = interpolant_at g w t (position_here r) in
    map-append (λ (s : Step). s.triple) first (steps_along g w t next rest) ∙
    ap (λ (l : List Triple). l ++ triples_in (steps_along g w t next rest)) k.triple ∙
    ap (λ (l : List Triple). letter_triple a.kind a.id from (saved_by g w t r.calls) (interpolant_at g w t (position_here next)) ++ l)
    (from_reading g w t ok rest next k.places acc.0 k.counted k.accepts ∙ ap (triples_along rest preds) (sym k.saved)) ∙
    sym (letter_first (interpolant_at g w t) from (saved_by g w t r.calls) a rest al next.letters next.stage next.scopes)

-- along an accepted word with its prefix predicates
pub steps_triples : (g : Graph) (w : List Letter) (t : Tree) → IsGraph g → Accepts g.automaton w → triples_in (steps_of g w t) ≡ triples_along w (prefix_predicates g w t) []
steps_triples g w t ok acc = from_reading g w t ok w (first_reading g) [] g.automaton.start refl acc
