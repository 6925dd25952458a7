-- What a triple with given numbers says, where its line names it.
use Rattle.std.proofs.Common.{◌≡◌, ℕ, List, Option, None, Some, refl, subst}
use Rattle.std.specs.Prelude.{slice_get}
use Rattle.std.specs.Option.{option_map}
use Rattle.lin_rows.specs.Rows.{LinearRow}
use Rattle.letter_acts.specs.Acts.{PlainAct, inside_act, call_act, back_act}
use Rattle.triple_rows.specs.declared.triples.Scoped.{Scoped}
use Rattle.triple_rows.specs.declared.triples.Triple.{Triple}
use Rattle.triple_rows.specs.declared.triples.Triple.TheVariants as triples
use Rattle.proof_names.specs.Options.{both}
use Rattle.proof_names.specs.Naming.{scoped_at, inside_at, call_at, return_at, back_at}

-- two predicates that are there, and what is made of them
pub record Two {T : Type 0} (make : Scoped × Scoped → T) (a b : Option Scoped) (t : T) : Type 0 where
  pub one : Scoped
  pub other : Scoped
  pub first : a ≡ Some one
  pub second : b ≡ Some other
  pub made : make (one, other) ≡ t

pub two : {T : Type 0} (make : Scoped × Scoped → T) (a b : Option Scoped) (t : T) → option_map make (both a b) ≡ Some t → Two make a b t
two make None b t e = absurd (cc)
two make (Some x) None t e = absurd (cc)
two make (Some x) (Some y) t e = record { one = x; other = y; first = refl; second = refl; made = cc }

pub inside_two : (preds : ℕ → Option Scoped) (q l r p : ℕ) (written : List ℕ) (helpers : ℕ) (rows : List LinearRow) (o : Option PlainAct) (t : Triple) →
    o ≡ Some (inside_act p written helpers rows) → inside_at preds q l r o ≡ Some t →
    Two (λ s. triples.Inside s.0 l s.1) (scoped_at preds p q) (scoped_at preds p r) t
inside_two preds q l r p written helpers rows o t e h =
    two (λ s. triples.Inside s.0 l s.1) (scoped_at preds p q) (scoped_at preds p r) t (subst (λ (a : Option PlainAct). inside_at preds q l r a ≡ Some t) e h)

pub call_two : (preds : ℕ → Option Scoped) (q l r caller callee helpers : ℕ) (rows : List LinearRow) (o : Option PlainAct) (t : Triple) →
    o ≡ Some (call_act caller callee helpers rows) → call_at preds q l r o ≡ Some t →
    Two (λ s. triples.Call s.0 l s.1) (scoped_at preds caller q) (scoped_at preds callee r) t
call_two preds q l r caller callee helpers rows o t e h =
    two (λ s. triples.Call s.0 l s.1) (scoped_at preds caller q) (scoped_at preds callee r) t (subst (λ (a : Option PlainAct). call_at preds q l r a ≡ Some t) e h)

-- three predicates that are there
pub record Three (l : ℕ) (a b c : Option Scoped) (t : Triple) : Type 0 where
  pub exit : Scoped
  pub before : Scoped
  pub to : Scoped
  pub first : a ≡ Some exit
  pub second : b ≡ Some before
  pub third : c ≡ Some to
  pub made : triples.Back exit before l to ≡ t

pub three : (l : ℕ) (a b c : Option Scoped) (t : Triple) → option_map (λ s. triples.Back s.0 s.1.0 l s.1.1) (both a (both b c)) ≡ Some t → Three l a b c t
three l None b c t e = absurd (cc)
three l (Some x) None c t e = absurd (cc)
three l (Some x) (Some y) None t e = absurd (cc)
three l (Some x) (Some y) (Some z) t e = record { exit = x; before = y; to = z; first = refl; second = refl; third = refl; made = cc }

pub back_three : (acts : List PlainAct) (preds : ℕ → Option Scoped) (x b l r c : ℕ) (targets : List ℕ) (caller callee helpers : ℕ) (rows : List LinearRow) (o : Option PlainAct) (t : Triple) →
    o ≡ Some (back_act c targets) → slice_get acts c ≡ Some (call_act caller callee helpers rows) → back_at acts preds x b l r o ≡ Some t →
    Three l (scoped_at preds callee x) (scoped_at preds caller b) (scoped_at preds caller r) t
back_three acts preds x b l r c targets caller callee helpers rows o t e f h =
    let k : return_at preds x b l r (slice_get acts c) ≡ Some t = subst (λ (a : Option PlainAct). back_at acts preds x b l r a ≡ Some t) e h in
    let k2 : return_at preds x b l r (Some (call_act caller callee helpers rows)) ≡ Some t = subst (λ (a : Option PlainAct). return_at preds x b l r a ≡ Some t) f k in
    three l (scoped_at preds callee x) (scoped_at preds caller b) (scoped_at preds caller r) t k2
