-- What reading a letter makes of sets of pairs.
use Rattle.std.proofs.Common.{◌≡◌, ◌↔◌, ℕ, List, [], ◌∷◌, refl, sym, ap, subst, inl, inr}
use Rattle.nwa_base.specs.declared.letters.Kind.{Kind}
use Rattle.nwa_base.specs.declared.letters.Kind.TheVariants.{Inside, Call, Back}
use Rattle.nwa_base.specs.declared.letters.Letter.{Letter}
use Rattle.nwa_base.specs.Members.{Member}
use Rattle.nwa_base.specs.Automata.{Automaton}
use Rattle.nwa_base.specs.Acceptance.{Follows, AcceptsFrom, Accepts}
use Rattle.nwa_base.specs.Pairs.{Linked, SomeAccepts, IsSupported, HasFinal, IsInsideOf, IsCallOf, IsBackOf, LettersOn}

-- the present state goes on, and the states before stay
linked_replace : (start : ℕ) (s t : List (ℕ × ℕ)) (sets : List (List (ℕ × ℕ))) (before : List ℕ) (q e : ℕ) →
    ((k : ℕ) → Member s (k, q) → Member t (k, e)) → Linked start (s ∷ sets) before q → Linked start (t ∷ sets) before e
linked_replace start s t [] [] q e f h = f start h
linked_replace start s t [] (p ∷ before) q e f h = absurd h
linked_replace start s t (u ∷ sets) [] q e f h = absurd h
linked_replace start s t (u ∷ sets) (p ∷ before) q e f h = (f p h.0, h.1)

-- and back
linked_pull : (start : ℕ) (s t : List (ℕ × ℕ)) (sets : List (List (ℕ × ℕ))) (before : List ℕ) (e : ℕ) (P : ℕ → Type 0) →
    ((k : ℕ) → Member t (k, e) → (q : ℕ) × Member s (k, q) × P q) → Linked start (t ∷ sets) before e →
    (q : ℕ) × Linked start (s ∷ sets) before q × P q
linked_pull start s t [] [] e P f h = f start h
linked_pull start s t [] (p ∷ before) e P f h = absurd h
linked_pull start s t (u ∷ sets) [] e P f h = absurd h
linked_pull start s t (u ∷ sets) (p ∷ before) e P f h = let r = f p h.0 in (r.0, (r.1, h.1), r.2)

linked_member : (start : ℕ) (s : List (ℕ × ℕ)) (sets : List (List (ℕ × ℕ))) (before : List ℕ) (q : ℕ) →
    Linked start (s ∷ sets) before q → (k : ℕ) × Member s (k, q)
linked_member start s [] [] q h = (start, h)
linked_member start s [] (p ∷ before) q h = absurd h
linked_member start s (u ∷ sets) [] q h = absurd h
linked_member start s (u ∷ sets) (p ∷ before) q h = (p, h.0)

inside_supported : (m : Automaton) (a : Letter) (s t : List (ℕ × ℕ)) (sets : List (List (ℕ × ℕ))) →
    IsInsideOf m a s t → IsSupported m.start (s ∷ sets) → IsSupported m.start (t ∷ sets)
inside_supported m a s t [] of h = λ k e g. let r = of.sound k e g in h k r.0 r.1
inside_supported m a s t (u ∷ sets) of h = (λ k e g. let r = of.sound k e g in h.0 k r.0 r.1, h.1)

back_supported : (m : Automaton) (a : Letter) (b s t : List (ℕ × ℕ)) (sets : List (List (ℕ × ℕ))) →
    IsBackOf m a b s t → IsSupported m.start (b ∷ sets) → IsSupported m.start (t ∷ sets)
back_supported m a b s t [] of h = λ k e g. let r = of.sound k e g in h k r.0 r.2
back_supported m a b s t (u ∷ sets) of h = (λ k e g. let r = of.sound k e g in h.0 k r.0 r.2, h.1)

called : (m : Automaton) (a : Letter) (s t : List (ℕ × ℕ)) (sets : List (List (ℕ × ℕ))) (w : List Letter) →
    a.kind ≡ Call → IsCallOf m a s t → (before : List ℕ) (e : ℕ) → Linked m.start (t ∷ s ∷ sets) before e → AcceptsFrom m before e w →
    SomeAccepts m (s ∷ sets) (a ∷ w)
called m a s t sets w i of [] e l h = absurd l
called m a s t sets w i of (p ∷ before) e l h =
    let r = of.sound p e l.0 in
    record {
      before = before;
      state = p;
      linked = l.1;
      accepts = (e, subst (λ (kind : Kind). Follows m kind a before p e (λ stack. AcceptsFrom m stack e w)) (sym i) (r.2, h));
    }

returned : (m : Automaton) (a : Letter) (b s t : List (ℕ × ℕ)) (sets : List (List (ℕ × ℕ))) (w : List Letter) →
    a.kind ≡ Back → IsBackOf m a b s t → (before : List ℕ) (q : ℕ) → Linked m.start (s ∷ b ∷ sets) before q →
    AcceptsFrom m before q (a ∷ w) → SomeAccepts m (t ∷ sets) w
returned m a b s t sets w i of [] q l h = absurd l
returned m a b s t sets w i of (p ∷ before) q l h =
    let e : ℕ = h.0 in
    let f : Member m.backs (q, p, a, e) × AcceptsFrom m before e w =
    subst (λ (kind : Kind). Follows m kind a (p ∷ before) q e (λ stack. AcceptsFrom m stack e w)) i h.1 in
    record {
      before = before;
      state = e;
      linked = linked_replace m.start b t sets before p e (λ k g. of.complete k p q e g l.0 f.0) l.1;
      accepts = f.1;
    }

unreturned : (m : Automaton) (a : Letter) (s : List (ℕ × ℕ)) (w : List Letter) → a.kind ≡ Back → (before : List ℕ) (q : ℕ) →
    Linked m.start (s ∷ []) before q → AcceptsFrom m before q (a ∷ w) → ⊥
unreturned m a s w i [] q l h = subst (λ (kind : Kind). Follows m kind a [] q h.0 (λ stack. AcceptsFrom m stack h.0 w)) i h.1
unreturned m a s w i (p ∷ before) q l h = l

from_start : (m : Automaton) (w : List Letter) (before : List ℕ) (q : ℕ) →
    Linked m.start (((m.start, m.start) ∷ []) ∷ []) before q → AcceptsFrom m before q w → Accepts m w
from_start m w [] q (inl e) h = subst (λ (n : ℕ). AcceptsFrom m [] n w) (sym (ap (λ (x : ℕ × ℕ). x.1) e)) h
from_start m w [] q (inr l) h = absurd l
from_start m w (p ∷ before) q l h = absurd l

pub inside_on : (m : Automaton) (a : Letter) (s t : List (ℕ × ℕ)) (sets : List (List (ℕ × ℕ))) →
    a.kind ≡ Inside → IsInsideOf m a s t → LettersOn m a (s ∷ sets) (t ∷ sets)
inside_on m a s t sets i of = record {
  same = λ w. (
    λ h.
        let e : ℕ = h.accepts.0 in
        let f : Member m.insides (h.state, a, e) × AcceptsFrom m h.before e w =
        subst (λ (kind : Kind). Follows m kind a h.before h.state e (λ stack. AcceptsFrom m stack e w)) i h.accepts.1 in
        record {
          before = h.before;
          state = e;
          linked = linked_replace m.start s t sets h.before h.state e (λ k g. of.complete k h.state e g f.0) h.linked;
          accepts = f.1;
        },
    λ h.
        let r = linked_pull m.start s t sets h.before h.state (λ q. Member m.insides (q, a, h.state)) (λ k g. of.sound k h.state g) h.linked in
        record {
          before = h.before;
          state = r.0;
          linked = r.1;
          accepts = (
            h.state,
            subst (λ (kind : Kind). Follows m kind a h.before r.0 h.state (λ stack. AcceptsFrom m stack h.state w)) (sym i) (r.2, h.accepts),
          );
        },
  );
  supported = inside_supported m a s t sets of;
}

pub call_on : (m : Automaton) (a : Letter) (s t : List (ℕ × ℕ)) (sets : List (List (ℕ × ℕ))) →
    a.kind ≡ Call → IsCallOf m a s t → LettersOn m a (s ∷ sets) (t ∷ s ∷ sets)
call_on m a s t sets i of = record {
  same = λ w. (
    λ h.
        let e : ℕ = h.accepts.0 in
        let f : Member m.calls (h.state, a, e) × AcceptsFrom m (h.state ∷ h.before) e w =
        subst (λ (kind : Kind). Follows m kind a h.before h.state e (λ stack. AcceptsFrom m stack e w)) i h.accepts.1 in
        let r = linked_member m.start s sets h.before h.state h.linked in
        record {
          before = h.state ∷ h.before;
          state = e;
          linked = (of.complete r.0 h.state e r.1 f.0, h.linked);
          accepts = f.1;
        },
    λ h. called m a s t sets w i of h.before h.state h.linked h.accepts,
  );
  supported = λ h. (λ k e g. let r = of.sound k e g in (r.0, r.1), h);
}

pub back_on : (m : Automaton) (a : Letter) (b s t : List (ℕ × ℕ)) (sets : List (List (ℕ × ℕ))) →
    a.kind ≡ Back → IsBackOf m a b s t → LettersOn m a (s ∷ b ∷ sets) (t ∷ sets)
back_on m a b s t sets i of = record {
  same = λ w. (
    λ h. returned m a b s t sets w i of h.before h.state h.linked h.accepts,
    λ h.
        let r = linked_pull m.start b t sets h.before h.state (λ p. (q : ℕ) × Member s (p, q) × Member m.backs (q, p, a, h.state))
        (λ k g. let d = of.sound k h.state g in (d.0, d.2, (d.1, d.3, d.4))) h.linked in
        record {
          before = r.0 ∷ h.before;
          state = r.2.0;
          linked = (r.2.1, r.1);
          accepts = (
            h.state,
            subst (λ (kind : Kind). Follows m kind a (r.0 ∷ h.before) r.2.0 h.state (λ stack. AcceptsFrom m stack h.state w)) (sym i) (r.2.2, h.accepts),
          );
        },
  );
  supported = λ h. back_supported m a b s t sets of h.1;
}

-- a return that finds no call is not accepted
pub no_back : (m : Automaton) (a : Letter) (s : List (ℕ × ℕ)) (w : List Letter) → a.kind ≡ Back → SomeAccepts m (s ∷ []) (a ∷ w) → ⊥
no_back m a s w i h = unreturned m a s w i h.before h.state h.linked h.accepts

pub at_start : (m : Automaton) (w : List Letter) → SomeAccepts m (((m.start, m.start) ∷ []) ∷ []) w ↔ Accepts m w
at_start m w = (
  λ h. from_start m w h.before h.state h.linked h.accepts,
  λ h. record { before = []; state = m.start; linked = inl refl; accepts = h },
)

supported_linked : (start : ℕ) (s : List (ℕ × ℕ)) (sets : List (List (ℕ × ℕ))) (k q : ℕ) →
    IsSupported start (s ∷ sets) → Member s (k, q) → (before : List ℕ) × Linked start (s ∷ sets) before q
supported_linked start s [] k q h g = ([], subst (λ (n : ℕ). Member s (n, q)) (h k q g) g)
supported_linked start s (u ∷ sets) k q h g =
    let j = h.0 k q g in
    let r = supported_linked start u sets j.0 k h.1 j.1 in
    (k ∷ r.0, (g, r.1))

pub at_end : (m : Automaton) (s : List (ℕ × ℕ)) (sets : List (List (ℕ × ℕ))) →
    IsSupported m.start (s ∷ sets) → SomeAccepts m (s ∷ sets) [] ↔ HasFinal m s
at_end m s sets v = (
  λ h. let r = linked_member m.start s sets h.before h.state h.linked in (r.0, h.state, r.1, h.accepts),
  λ h. let r = supported_linked m.start s sets h.0 h.1 v h.2 in record { before = r.0; state = h.1; linked = r.1; accepts = h.3 },
)
