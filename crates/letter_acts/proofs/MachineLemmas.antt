-- Ways of two notions of step at once, and the stack machine of an automaton and its letters.
use Rattle.std.proofs.Common.{◌≡◌, ◌↔◌, ℕ, List, [], ◌∷◌, refl, sym, ap, subst}
use Rattle.std.specs.Prelude.{map}
use Rattle.nwa_base.specs.declared.letters.Kind.{Kind}
use Rattle.nwa_base.specs.declared.letters.Kind.TheVariants.{Inside, Call, Back}
use Rattle.nwa_base.specs.declared.letters.Letter.{Letter}
use Rattle.nwa_base.specs.Members.{Member}
use Rattle.nwa_base.specs.Automata.{Automaton}
use Rattle.nwa_base.specs.Acceptance.{Follows, AcceptsFrom, Accepts}
use Rattle.letter_acts.specs.Acts.{Alphabet}
use Rattle.letter_acts.specs.Ways.{Steps, both, Leads, Goes}
use Rattle.letter_acts.specs.Feasible.{meaning, IsFeasible, edges, MachineRun, FeasibleWay}
use Rattle.letter_acts.proofs.WayLemmas.{leads_stack, leads_with, through_goes, goes_through, along_by_stack}

abbrev pub firsts : {X Y : Type 0} → List (X × Y) → List X
firsts stack = map (λ c. c.0) stack

abbrev pub seconds : {X Y : Type 0} → List (X × Y) → List Y
seconds stack = map (λ c. c.1) stack

-- a letter that leads in both notions leads in both at once
together_step : {X Y : Type 0} (s : Steps X) (t : Steps Y) (kind : Kind) (a : Letter) (before : List (X × Y)) (x y : X) (u v : Y) (xs : List X) (ys : List Y) →
    Leads s kind a (firsts before) x y (λ l. l ≡ xs) → Leads t kind a (seconds before) u v (λ l. l ≡ ys) →
    (stack : List (X × Y)) × (firsts stack ≡ xs) × (seconds stack ≡ ys) × Leads (both s t) kind a before (x, u) (y, v) (λ l. l ≡ stack)
together_step s t Inside a before x y u v xs ys h g = (before, h.1, g.1, ((h.0, g.0), refl))
together_step s t Call a before x y u v xs ys h g = ((x, u) ∷ before, h.1, g.1, ((h.0, g.0), refl))
together_step s t Back a [] x y u v xs ys h g = absurd h
together_step s t Back a (b ∷ before) x y u v xs ys h g = (before, h.1, g.1, ((h.0, g.0), refl))

-- ways of each through one word are a way of both
pub goes_together : {X Y : Type 0} (s : Steps X) (t : Steps Y) (w : List Letter) (before : List (X × Y)) (xs : List X) (ys : List Y) (x y : X) (u v : Y) →
    Goes s (firsts before) x w xs y → Goes t (seconds before) u w ys v →
    (after : List (X × Y)) × (firsts after ≡ xs) × (seconds after ≡ ys) × Goes (both s t) before (x, u) w after (y, v)
goes_together s t [] before xs ys x y u v h g = (before, h.0, g.0, (refl, λ i. (h.1 i, g.1 i)))
goes_together {X} {Y} s t (a ∷ w) before xs ys x y u v h g =
    let f = leads_stack s a.kind a (firsts before) x h.0 (λ l. Goes s l h.0 w xs y) h.1 in
    let k = leads_stack t a.kind a (seconds before) u g.0 (λ l. Goes t l g.0 w ys v) g.1 in
    let n = together_step s t a.kind a before x h.0 u g.0 f.0 k.0 f.1 k.1 in
    let r = goes_together s t w n.0 xs ys h.0 y g.0 v
    (subst (λ (l : List X). Goes s l h.0 w xs y) (sym n.1) f.2) (subst (λ (l : List Y). Goes t l g.0 w ys v) (sym n.2) k.2) in
    (r.0, r.1, r.2, ((h.0, g.0), leads_with (both s t) a.kind a before (x, u) (h.0, g.0) n.0 (λ l. Goes (both s t) l (h.0, g.0) w r.0 (y, v)) n.3 r.3))

apart_step : {X Y : Type 0} (s : Steps X) (t : Steps Y) (kind : Kind) (a : Letter) (before : List (X × Y)) (x y : X × Y) (stack : List (X × Y)) →
    Leads (both s t) kind a before x y (λ l. l ≡ stack) →
    Leads s kind a (firsts before) x.0 y.0 (λ l. l ≡ firsts stack) × Leads t kind a (seconds before) x.1 y.1 (λ l. l ≡ seconds stack)
apart_step s t Inside a before x y stack h = ((h.0.0, ap firsts h.1), (h.0.1, ap seconds h.1))
apart_step s t Call a before x y stack h = ((h.0.0, ap firsts h.1), (h.0.1, ap seconds h.1))
apart_step s t Back a [] x y stack h = absurd h
apart_step s t Back a (b ∷ before) x y stack h = ((h.0.0, ap firsts h.1), (h.0.1, ap seconds h.1))

-- a way of both is a way of each
pub goes_apart : {X Y : Type 0} (s : Steps X) (t : Steps Y) (w : List Letter) (before after : List (X × Y)) (x y : X × Y) → Goes (both s t) before x w after y →
    Goes s (firsts before) x.0 w (firsts after) y.0 × Goes t (seconds before) x.1 w (seconds after) y.1
goes_apart s t [] before after x y h = ((ap firsts h.0, λ i. (h.1 i).0), (ap seconds h.0, λ i. (h.1 i).1))
goes_apart s t (a ∷ w) before after x y h =
    let f = leads_stack (both s t) a.kind a before x h.0 (λ l. Goes (both s t) l h.0 w after y) h.1 in
    let k = apart_step s t a.kind a before x h.0 f.0 f.1 in
    let r = goes_apart s t w f.0 after h.0 y f.2 in (
      (h.0.0, leads_with s a.kind a (firsts before) x.0 h.0.0 (firsts f.0) (λ l. Goes s l h.0.0 w (firsts after) y.0) k.0 r.0),
      (h.0.1, leads_with t a.kind a (seconds before) x.1 h.0.1 (seconds f.0) (λ l. Goes t l h.0.1 w (seconds after) y.1) k.1 r.1),
    )

-- the edges as steps lead as edges do
follows_leads : (m : Automaton) (kind : Kind) (a : Letter) (before : List ℕ) (q e : ℕ) (P : List ℕ → Type 0) →
    Follows m kind a before q e P → Leads (edges m) kind a before q e P
follows_leads m Inside a before q e P h = h
follows_leads m Call a before q e P h = h
follows_leads m Back a [] q e P h = absurd h
follows_leads m Back a (p ∷ before) q e P h = h

leads_follows : (m : Automaton) (kind : Kind) (a : Letter) (before : List ℕ) (q e : ℕ) (P : List ℕ → Type 0) →
    Leads (edges m) kind a before q e P → Follows m kind a before q e P
leads_follows m Inside a before q e P h = h
leads_follows m Call a before q e P h = h
leads_follows m Back a [] q e P h = absurd h
leads_follows m Back a (p ∷ before) q e P h = h

pub accepted_goes : (m : Automaton) (w : List Letter) (before : List ℕ) (q : ℕ) → AcceptsFrom m before q w →
    (after : List ℕ) × (e : ℕ) × Goes (edges m) before q w after e × Member m.finals e
accepted_goes m [] before q h = (before, q, (refl, refl), h)
accepted_goes m (a ∷ w) before q h =
    let f = leads_stack (edges m) a.kind a before q h.0 (λ l. AcceptsFrom m l h.0 w) (follows_leads m a.kind a before q h.0 (λ l. AcceptsFrom m l h.0 w) h.1) in
    let r = accepted_goes m w f.0 h.0 f.2 in
    (r.0, r.1, (h.0, leads_with (edges m) a.kind a before q h.0 f.0 (λ l. Goes (edges m) l h.0 w r.0 r.1) f.1 r.2), r.3)

pub goes_accepted : (m : Automaton) (w : List Letter) (before after : List ℕ) (q e : ℕ) → Goes (edges m) before q w after e → Member m.finals e → AcceptsFrom m before q w
goes_accepted m [] before after q e h g = subst (Member m.finals) (sym h.1) g
goes_accepted m (a ∷ w) before after q e h g =
    let f = leads_stack (edges m) a.kind a before q h.0 (λ l. Goes (edges m) l h.0 w after e) h.1 in (
      h.0,
      leads_follows m a.kind a before q h.0 (λ l. AcceptsFrom m l h.0 w)
          (leads_with (edges m) a.kind a before q h.0 f.0 (λ l. AcceptsFrom m l h.0 w) f.1 (goes_accepted m w f.0 after h.0 e f.2 g)),
    )

-- a word is feasible exactly where some way of the meaning leads through it
feasible_way : (al : Alphabet) (w : List Letter) → IsFeasible al w → FeasibleWay al w
feasible_way al w h =
    let g = through_goes (meaning al) w [] h.0 h.1 ((along_by_stack (meaning al) w h.0 h.1).0 h.2.along) in
    record { first = h.0; last = g.1; open_calls = g.0; begins = h.2.begins; goes = g.2 }

way_feasible : (al : Alphabet) (w : List Letter) → FeasibleWay al w → IsFeasible al w
way_feasible al w h =
    let g = goes_through (meaning al) w [] h.open_calls h.first h.last h.goes in
    (h.first, g.0, record { begins = h.begins; along = (along_by_stack (meaning al) w h.first g.0).1 g.1 })

pub feasible_by_way : (al : Alphabet) (w : List Letter) → IsFeasible al w ↔ FeasibleWay al w
feasible_by_way al w = (feasible_way al w, way_feasible al w)

-- a word is accepted and feasible exactly where the stack machine has a run over it
pub machine_runs : (m : Automaton) (al : Alphabet) (w : List Letter) → (Accepts m w × IsFeasible al w) ↔ MachineRun m al w
machine_runs m al w = (
  λ h.
      let a = accepted_goes m w [] m.start h.0 in
      let f = feasible_way al w h.1 in
      let r = goes_together (edges m) (meaning al) w [] a.0 f.open_calls m.start a.1 f.first f.last a.2 f.goes in
      record { first = f.first; last = (a.1, f.last); open_calls = r.0; begins = f.begins; goes = r.3; ends = a.3 },
  λ h.
      let r = goes_apart (edges m) (meaning al) w [] h.open_calls (m.start, h.first) h.last h.goes in (
        goes_accepted m w [] (firsts h.open_calls) m.start h.last.0 r.0 h.ends,
        way_feasible al w (record { first = h.first; last = h.last.1; open_calls = seconds h.open_calls; begins = h.begins; goes = r.1 }),
      ),
)
