-- Words that lead to pairs, letter by letter.
use Rattle.std.proofs.Common.{◌≡◌, ℕ, List, [], ◌∷◌, ◌++◌, Option, None, Some, refl, sym, ap, subst}
use Rattle.nwa_base.specs.declared.letters.Kind.{Kind}
use Rattle.nwa_base.specs.declared.letters.Kind.TheVariants.{Inside, Call, Back}
use Rattle.nwa_base.specs.declared.letters.Letter.{Letter}
use Rattle.nwa_base.specs.Members.{Member}
use Rattle.nwa_base.specs.Automata.{Automaton}
use Rattle.nwa_base.specs.Acceptance.{Follows, Accepts, Moves, AcceptsFrom}
use Rattle.nwa_base.proofs.WayLemmas.{moves_last, moves_join, moves_below, accepts_join}
use Rattle.nwa_emptiness.specs.Spelled.{Spells, Reaches}

-- the state in which the words of a pair begin
abbrev pub begin_of : Automaton → Option ℕ → ℕ
begin_of m None = m.start
begin_of m (Some n) = n

pub spells_from : (m : Automaton) (k : Option ℕ) (q : ℕ) (w : List Letter) → Spells m k q w → Moves m [] (begin_of m k) w [] q
spells_from m None q w h = h
spells_from m (Some n) q w h = h

pub from_spells : (m : Automaton) (k : Option ℕ) (q : ℕ) (w : List Letter) → Moves m [] (begin_of m k) w [] q → Spells m k q w
from_spells m None q w h = h
from_spells m (Some n) q w h = h

moves_inside : (m : Automaton) (w : List Letter) (a : Letter) (before after : List ℕ) (b q e : ℕ) → a.kind ≡ Inside →
    Moves m before b w after q → Member m.insides (q, a, e) → Moves m before b (w ++ a ∷ []) after e
moves_inside m w a before after b q e i h g =
    (moves_last m w a before after b e).1
    (after, q, h, subst (λ (kind : Kind). Follows m kind a after q e (λ stack. stack ≡ after)) (sym i) (g, refl))

moves_call : (m : Automaton) (w : List Letter) (a : Letter) (before after : List ℕ) (b q e : ℕ) → a.kind ≡ Call →
    Moves m before b w after q → Member m.calls (q, a, e) → Moves m before b (w ++ a ∷ []) (q ∷ after) e
moves_call m w a before after b q e i h g =
    (moves_last m w a before (q ∷ after) b e).1
    (after, q, h, subst (λ (kind : Kind). Follows m kind a after q e (λ stack. stack ≡ q ∷ after)) (sym i) (g, refl))

moves_back : (m : Automaton) (w : List Letter) (a : Letter) (before after : List ℕ) (b p q e : ℕ) → a.kind ≡ Back →
    Moves m before b w (p ∷ after) q → Member m.backs (q, p, a, e) → Moves m before b (w ++ a ∷ []) after e
moves_back m w a before after b p q e i h g =
    (moves_last m w a before after b e).1
    (p ∷ after, q, h, subst (λ (kind : Kind). Follows m kind a (p ∷ after) q e (λ stack. stack ≡ after)) (sym i) (g, refl))

-- an inside letter more
pub inside_spelled : (m : Automaton) (k : Option ℕ) (q e : ℕ) (w : List Letter) (a : Letter) → a.kind ≡ Inside →
    Spells m k q w → Member m.insides (q, a, e) → Spells m k e (w ++ a ∷ [])
inside_spelled m k q e w a i h g =
    from_spells m k e (w ++ a ∷ []) (moves_inside m w a [] [] (begin_of m k) q e i (spells_from m k q w h) g)

-- a call, a word inside it, and its return
pub back_spelled : (m : Automaton) (k : Option ℕ) (p n q e : ℕ) (u v : List Letter) (c r : Letter) → c.kind ≡ Call → r.kind ≡ Back →
    Spells m k p u → Member m.calls (p, c, n) → Spells m (Some n) q v → Member m.backs (q, p, r, e) →
    Spells m k e (((u ++ c ∷ []) ++ v) ++ r ∷ [])
back_spelled m k p n q e u v c r i j h d g b =
    let called = moves_call m u c [] [] (begin_of m k) p n i (spells_from m k p u h) d in
    let inner : Moves m (p ∷ []) n v (p ∷ []) q = moves_below m v [] [] (p ∷ []) n q g in
    let both = moves_join m (u ++ c ∷ []) v [] (p ∷ []) (p ∷ []) (begin_of m k) n q called inner in
    from_spells m k e (((u ++ c ∷ []) ++ v) ++ r ∷ []) (moves_back m ((u ++ c ∷ []) ++ v) r [] [] (begin_of m k) p q e j both b)

-- a call that stays open, and a word inside it
pub call_reached : (m : Automaton) (p n q : ℕ) (u v : List Letter) (c : Letter) → c.kind ≡ Call →
    Reaches m p u → Member m.calls (p, c, n) → Spells m (Some n) q v → Reaches m q ((u ++ c ∷ []) ++ v)
call_reached m p n q u v c i h d g =
    let called = moves_call m u c [] h.0 m.start p n i h.1 d in
    let inner : Moves m (p ∷ h.0) n v (p ∷ h.0) q = moves_below m v [] [] (p ∷ h.0) n q g in
    (p ∷ h.0, moves_join m (u ++ c ∷ []) v [] (p ∷ h.0) (p ∷ h.0) m.start n q called inner)

pub no_call_reached : (m : Automaton) (q : ℕ) (w : List Letter) → Spells m None q w → Reaches m q w
no_call_reached m q w h = ([], h)

without_end : (w : List Letter) → w ++ [] ≡ w
without_end [] = refl
without_end (a ∷ w) = ap (λ (l : List Letter). a ∷ l) (without_end w)

-- a word that reaches a final state is accepted
pub reached_accepted : (m : Automaton) (q : ℕ) (w : List Letter) → Reaches m q w → Member m.finals q → Accepts m w
reached_accepted m q w h f =
    subst (λ (l : List Letter). AcceptsFrom m [] m.start l) (without_end w) (accepts_join m w [] [] h.0 m.start q h.1 f)
