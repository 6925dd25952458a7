-- What comes of the rounds of a worker.
use Rattle.std.proofs.Common.{◌≡◌, ◌≢◌, ◌⊎◌, inl, inr, ℕ, ◌<◌, List, [], ◌∷◌, ◌++◌, length, Option, None, Some, Result, Ok, Err, refl, sym, subst, ap, ◌∙◌, arith}
use Rattle.std.specs.Prelude.{IfOk, IfSome, IsSome}
use Rattle.nwa_base.specs.declared.letters.Letter.{Letter}
use Rattle.nwa_base.specs.Automata.{Automaton}
use Rattle.nwa_base.specs.Acceptance.{Accepts}
use Rattle.letter_acts.specs.Invariant.{Graph}
use Rattle.typed_tree.specs.TypedTree.{TypedProgram}
use Rattle.lowered_graph.specs.Lowered.{lowered}
use Rattle.race_core.specs.declared.ends.End.{End}
use Rattle.race_core.specs.declared.ends.EndKind.{EndKind}
use Rattle.race_core.specs.declared.events.Entry.{Entry}
use Rattle.race_core.specs.declared.events.Why.{Why}
use Rattle.race_core.specs.declared.events.Why.TheVariants.{Ended, Full, Stale}
use Rattle.race_core.specs.Histories.{Removed, Keeps}
use Rattle.race_core.specs.Steps.{publish_refusal, finish_refusal}
use Rattle.itp_automaton.specs.Certified.{Certificate}
use Rattle.race_rounds.specs.Ends.{WordIsKept}
use Rattle.race_rounds.specs.Rounds.{automaton_in, IsOwn}
use Rattle.version_cell.specs.Counts.{Begins}
use Rattle.version_cell.specs.Passes.{Cell, Known, IsPassOf, WasAt, shown, owning, Names}
use Rattle.version_cell.proofs.Beginnings.{begins_length}
use Rattle.race_rounds.specs.declared.limits.Limits.{Limits}
use Rattle.race_workers.specs.declared.rounds.Turn.{Turn}
use Rattle.race_workers.specs.declared.rounds.Turn.TheVariants as turns
use Rattle.race_workers.specs.Ties.Parts.{IsJob, IsAsSeen, turn_after, IsStillKept, Offers, Seeks, Pursues}
use Rattle.race_workers.proofs.Parts.{program_of}

-- ---- refusals

some_kind : (k : Option EndKind) (kind : EndKind) → k ≡ Some kind → IsSome k
some_kind None kind e = cc
some_kind (Some x) kind e = refl

-- what is refused as stale was made for another version
stale_differs : (end : Option End) (version limit base n : ℕ) → publish_refusal end version limit base ≡ Some (Stale n) → base ≢ version
stale_differs None version limit base n = grind arith
stale_differs (Some e) version limit base n = grind arith

-- an end is refused as ended, or it was made for another version
finish_differs : (end : Option End) (version base : ℕ) (why : Why) → finish_refusal end version base ≡ Some why →
    ((k : EndKind) × (why ≡ Ended k)) ⊎ (base ≢ version)
finish_differs None version base why = grind arith
finish_differs (Some e) version base why = grind arith

-- another cause than that the race has ended
pub not_ended : (why : Why) → ((n : ℕ) × (why ≡ Full n)) ⊎ ((n : ℕ) × (why ≡ Stale n)) → (k : EndKind) → why ≡ Ended k → ⊥
not_ended why (inl x) k e = let f = x.1 in cc
not_ended why (inr x) k e = let f = x.1 in cc

-- where another history than the one that was seen refuses, it is longer
grown : (p : Known Certificate) (h : List (Entry Certificate)) (base : ℕ) → Begins p.seen h → base ≡ length p.seen → base ≢ length h → length p.seen < length h
grown p h base s b d = let l = begins_length p.seen h s in omega (arith, l, b, d)

-- ---- offers

pub added : (p q : Known Certificate) (e : Entry Certificate) (h : List (Entry Certificate)) (base : ℕ) → length h ≡ base → q ≡ owning p h e base →
    Offers p q e (turns.Again None)
added p q e h base at s =
    inl (h, ap (λ (k : Known Certificate). k.seen) s, ap (λ (k : Known Certificate). k.own) s ∙ ap (λ (n : ℕ). p.own ++ n ∷ []) (sym at))

refused_so : (p q : Known Certificate) (e : Entry Certificate) (h : List (Entry Certificate)) (end : Option End) (limit base : ℕ) (why : Why) → Begins p.seen h →
    base ≡ length p.seen → publish_refusal end (length h) limit base ≡ Some why → q.seen ≡ h → Names q why → Offers p q e (turn_after why e)
refused_so p q e h end limit base (Ended k) s b r same n = some_kind q.ended k n
refused_so p q e h end limit base (Full m) s b r same n = inr (n.1 ∙ n.0)
refused_so p q e h end limit base (Stale m) s b r same n =
    (refl, subst (λ (l : List (Entry Certificate)). length p.seen < length l) (sym same) (grown p h base s b (stale_differs end (length h) limit base m r)))

pub refused : (p q : Known Certificate) (e f : Entry Certificate) (h : List (Entry Certificate)) (end : Option End) (limit base : ℕ) (why : Why) (turn : Turn) →
    WasAt p h end → base ≡ length p.seen → publish_refusal end (length h) limit base ≡ Some why → f ≡ e → q ≡ shown p h end → Names q why →
    turn ≡ turn_after why f → Offers p q e turn
refused p q e f h end limit base why turn w b r same s n is =
    subst (λ (x : Turn). Offers p q e x) (sym (is ∙ ap (turn_after why) same))
    (refused_so p q e h end limit base why w.0 b r (ap (λ (k : Known Certificate). k.seen) s) n)

-- ---- taking a kept word

-- the end was made for a history that is not the whole one any more
pub finish_grows : (p q : Known Certificate) (h : List (Entry Certificate)) (end : Option End) (base : ℕ) (why : Why) → WasAt p h end → base ≡ length p.seen →
    finish_refusal end (length h) base ≡ Some why → q ≡ shown p h end → ((k : EndKind) → why ≡ Ended k → ⊥) → length p.seen < length q.seen
finish_grows p q h end base why w b r s other =
    subst (λ (l : List (Entry Certificate)). length p.seen < length l) (sym (ap (λ (k : Known Certificate). k.seen) s))
    (grown p h base w.0 b (elim (finish_differs end (length h) base why r) [ inl x ↦ absurd (other x.0 x.1) | inr d ↦ d ]))

pub begins_shown : (p q : Known Certificate) (h : List (Entry Certificate)) → Begins p.seen h → q.seen ≡ h → Begins p.seen q.seen
begins_shown p q h s e = (s.0, e ∙ s.1)

-- ---- rounds

-- an earlier state of the pass, with the same entries of its own
offers_before : (p m q : Known Certificate) (e : Entry Certificate) (turn : Turn) → Begins p.seen m.seen → m.own ≡ p.own → Offers m q e turn → Offers p q e turn
offers_before p m q e (turns.Again None) s own (inl a) = inl (a.0, a.1, a.2 ∙ ap (λ (l : List ℕ). l ++ length a.0 ∷ []) own)
offers_before p m q e (turns.Again None) s own (inr f) = inr f
offers_before p m q e (turns.Again (Some f)) s own o = let l = begins_length p.seen m.seen s in let g = o.1 in (o.0, omega (arith, l, g))
offers_before p m q e turns.Over s own o = o

seeks_before : (t : TypedProgram) (p m q : Known Certificate) (turn : Turn) → Begins p.seen m.seen → Seeks t m q turn → Seeks t p q turn
seeks_before t p m q (turns.Again None) s o = let l = begins_length p.seen m.seen s in omega (arith, l, o)
seeks_before t p m q (turns.Again (Some f)) s o = o
seeks_before t p m q turns.Over s o = o

removed_front : (h more : List (Entry Certificate)) (w : List Letter) → Removed automaton_in h w → Removed automaton_in (h ++ more) w
removed_front [] more w r = absurd r
removed_front (x ∷ h) more w (inl a) = inl a
removed_front (x ∷ h) more w (inr r) = inr (removed_front h more w r)

-- a word that is not kept is not kept later
pub gone : (program left : Automaton) (h k : List (Entry Certificate)) (w : List Letter) → Keeps automaton_in program h left → Begins h k → (Accepts left w → ⊥) →
    WordIsKept automaton_in program k w → ⊥
gone program left h k w keeps s none x =
    none ((keeps w).1 (x.error, λ r. x.left (subst (λ (l : List (Entry Certificate)). Removed automaton_in l w) (sym s.1) (removed_front h s.0 w r))))

pub over : (t : TypedProgram) (p q : Known Certificate) (carried : Option (Entry Certificate)) → IsSome q.ended → Pursues t p q carried turns.Over
over t p q None s = s
over t p q (Some e) s = inl s

-- what an entry comes to that is offered, or whose word is no longer kept
pub offered : {X : Type 0} (t : TypedProgram) (p q : Known Certificate) (left : Automaton) (carried : Option (Entry Certificate)) (e : Entry Certificate)
    (result : Result Turn X) → IsStillKept left carried (Some e) → IfOk result (Offers p q e) → IfOk result (Pursues t p q carried)
offered t p q left carried e (Ok turn) k o = subst (λ (c : Option (Entry Certificate)). Pursues t p q c turn) (sym k.0) (inl o)
offered t p q left carried e (Err x) k o = tt

sought_so : (t : TypedProgram) (p q : Known Certificate) (left : Automaton) (carried : Option (Entry Certificate)) (turn : Turn) →
    Keeps automaton_in (lowered t).automaton p.seen left → IsStillKept left carried None → Begins p.seen q.seen → Seeks t p q turn → Pursues t p q carried turn
sought_so t p q left None turn keeps k grows o = o
sought_so t p q left (Some e) turn keeps k grows o = inr (gone (lowered t).automaton left p.seen q.seen e.word keeps grows k, o)

pub sought : {X : Type 0} (t : TypedProgram) (g : Graph) (l : Limits) (c : Cell) (p q : Known Certificate) (version : ℕ) (read kept : Automaton)
    (carried : Option (Entry Certificate)) (result : Result Turn X) → IsJob t g l c → IsPassOf c p → IsAsSeen p version kept → read ≡ kept →
    IsStillKept read carried None → IfOk result (λ turn. Begins p.seen q.seen) → IfOk result (Seeks t p q) → IfOk result (Pursues t p q carried)
sought t g l c p q version read kept carried (Ok turn) j at seen same k grows o =
    sought_so t p q read carried turn
    (subst (λ (m : Automaton). Keeps automaton_in m p.seen read) (program_of t g l c p j at)
    (subst (λ (m : Automaton). Keeps automaton_in p.program p.seen m) (sym same) seen.1)) k grows o
sought t g l c p q version read kept carried (Err x) j at seen same k grows o = tt

pursues_so : (t : TypedProgram) (p m q : Known Certificate) (carried : Option (Entry Certificate)) (turn : Turn) → Begins p.seen m.seen → m.own ≡ p.own →
    Pursues t m q carried turn → Pursues t p q carried turn
pursues_so t p m q None turn s own o = seeks_before t p m q turn s o
pursues_so t p m q (Some e) turn s own (inl o) = inl (offers_before p m q e turn s own o)
pursues_so t p m q (Some e) turn s own (inr o) = inr (o.0, seeks_before t p m q turn s o.1)

pub pursues_before : {X : Type 0} (t : TypedProgram) (p m q : Known Certificate) (carried : Option (Entry Certificate)) (result : Result Turn X) →
    ((h : List (Entry Certificate)) × (end : Option End) × WasAt p h end × (m ≡ shown p h end)) → IfOk result (Pursues t m q carried) →
    IfOk result (Pursues t p q carried)
pursues_before t p m q carried (Ok turn) s o =
    pursues_so t p m q carried turn (begins_shown p m s.0 s.2.0 (ap (λ (k : Known Certificate). k.seen) s.3)) (ap (λ (k : Known Certificate). k.own) s.3) o
pursues_before t p m q carried (Err x) s o = tt

-- ---- what is carried into the next round

offered_own : (t : TypedProgram) (p q : Known Certificate) (e : Entry Certificate) (c : Option (Entry Certificate)) → IsOwn t e → Offers p q e (turns.Again c) →
    IfSome c (IsOwn t)
offered_own t p q e None own o = tt
offered_own t p q e (Some f) own o = subst (λ (x : Entry Certificate). IsOwn t x) (sym o.0) own

sought_own : (t : TypedProgram) (p q : Known Certificate) (c : Option (Entry Certificate)) → Seeks t p q (turns.Again c) → IfSome c (IsOwn t)
sought_own t p q None o = tt
sought_own t p q (Some f) o = o.0

pub carried_on : (t : TypedProgram) (p q : Known Certificate) (carried c : Option (Entry Certificate)) → IfSome carried (IsOwn t) →
    Pursues t p q carried (turns.Again c) → IfSome c (IsOwn t)
carried_on t p q None c own o = sought_own t p q c o
carried_on t p q (Some e) c own (inl o) = offered_own t p q e c own o
carried_on t p q (Some e) c own (inr o) = sought_own t p q c o.1

pub ended : (t : TypedProgram) (p q : Known Certificate) (carried : Option (Entry Certificate)) → Pursues t p q carried turns.Over → IsSome q.ended
ended t p q None o = o
ended t p q (Some e) (inl o) = o
ended t p q (Some e) (inr o) = o.1

-- ---- an entry that was made for a kept word

pub made : (t : TypedProgram) (p : Known Certificate) (w : List Letter) (e : Entry Certificate) → WordIsKept automaton_in (lowered t).automaton p.seen w → IsOwn t e → e.word ≡ w →
    Seeks t p p (turns.Again (Some e))
made t p w e kept own same = (own, subst (λ (v : List Letter). WordIsKept automaton_in (lowered t).automaton p.seen v) (sym same) kept)
