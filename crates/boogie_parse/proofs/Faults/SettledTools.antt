-- A reading that looks at no more than one symbol behind what it takes: the tools for it, whatever the rule.
use Rattle.std.proofs.Common.{◌≡◌, ℕ, zero, suc, ◌+◌, ◌-◌, ◌<◌, ◌≤◌, Bool, true, false, List, [], ◌∷◌, ◌++◌, length, Option, None, Some, IfSome, Result, Ok, Err, refl, ap, sym, ◌∙◌, subst, arith, append_assoc, length-append, if◌then◌else◌}
use Rattle.std.proofs.lemmas.Bool.{cond_both}
use Rattle.boogie_tree.specs.declared.span.Span.{Span}
use Rattle.boogie_parse.specs.declared.fault.Fault.{Fault}
use Rattle.boogie_parse.specs.declared.fault.Fault.TheVariants as faults
use Rattle.boogie_parse.specs.declared.fault.Which.{Which}
use Rattle.boogie_parse.specs.declared.symbols.Fixed.{Fixed}
use Rattle.boogie_parse.specs.declared.symbols.Fixed.TheVariants as fixed
use Rattle.boogie_parse.specs.declared.symbols.Symbol.{Symbol}
use Rattle.boogie_parse.specs.Reading.Outcomes.{Read, ReadResult, syntax_fault, limit_fault, refused, and_then}
use Rattle.boogie_parse.specs.Reading.ListReading.{◌>>=◌, read, Possible, there, one_there, says, seen, with_front, more_by, separated, repeated_by, repeated}
use Rattle.boogie_parse.specs.Ties.Settled.{IsSettled}

-- both begin with the same symbol
abbrev pub SameHead : List Symbol → List Symbol → Type 0
SameHead [] us = ⊥
SameHead (t ∷ ts) [] = ⊥
SameHead (t ∷ ts) (u ∷ us) = t ≡ u

pub same_front : (front r m : List Symbol) → SameHead r m → SameHead (front ++ r) (front ++ m)
same_front [] r m s = s
same_front (t ∷ front) r m s = refl

-- what is read takes k symbols or more, and is read the same before whatever begins with the symbol that follows it
pub record Goes (X : Type 0) (k : ℕ) (R : List Symbol → ReadResult X) (ts : List Symbol) (a : Read X) : Type 0 where
  pub front : List Symbol
  pub taken : k ≤ length front
  pub parts : ts ≡ front ++ a.rest
  pub again : (m : List Symbol) → SameHead a.rest m → R (front ++ m) ≡ read a.value m

-- so for what stands there, which takes a symbol
pub record Stands (X : Type 0) (R : List Symbol → Possible X) (ts : List Symbol) (a : Read X) : Type 0 where
  pub front : List Symbol
  pub taken : 1 ≤ length front
  pub parts : ts ≡ front ++ a.rest
  pub again : (m : List Symbol) → SameHead a.rest m → R (front ++ m) ≡ Ok (Some (record { value = a.value; rest = m }))

abbrev pub StopsBy : {A : Type 0} → (List Symbol → Result A Fault) → List Symbol → Fault → Type 0
StopsBy {A} R ts (faults.Limit kind line col) = IsSettled A R ts kind line col
StopsBy R ts (faults.Syntax line col) = Unit {0}
StopsBy R ts (faults.Unsupported what line col) = Unit {0}
StopsBy R ts faults.Memory = Unit {0}

abbrev pub SteadyBy : {X : Type 0} → ℕ → (List Symbol → ReadResult X) → List Symbol → ReadResult X → Type 0
SteadyBy {X} k R ts (Ok a) = Goes X k R ts a
SteadyBy k R ts (Err f) = StopsBy R ts f

-- the reading is so, and takes k symbols or more
abbrev pub Steady : {X : Type 0} → ℕ → (List Symbol → ReadResult X) → List Symbol → Type 0
Steady k R ts = SteadyBy k R ts (R ts)

abbrev pub MaybeBy : {X : Type 0} → (List Symbol → Possible X) → List Symbol → Possible X → Type 0
MaybeBy R ts (Ok None) = (m : List Symbol) → SameHead ts m → R m ≡ Ok None
MaybeBy {X} R ts (Ok (Some a)) = Stands X R ts a
MaybeBy R ts (Err f) = StopsBy R ts f

abbrev pub Maybe : {X : Type 0} → (List Symbol → Possible X) → List Symbol → Type 0
Maybe R ts = MaybeBy R ts (R ts)

-- ---- a reading that goes on as another one behind some symbols

pub stop_as : {A B : Type 0} (R : List Symbol → Result A Fault) (S : List Symbol → Result B Fault) (front ts us : List Symbol) (f : Fault) → ts ≡ front ++ us →
    ((m : List Symbol) → SameHead us m → (e : Fault) → R m ≡ Err e → S (front ++ m) ≡ Err e) → StopsBy R us f → StopsBy S ts f
stop_as R S front ts us (faults.Limit kind line col) parts pass s =
    record {
      before = front ++ s.before;
      symbol = s.symbol;
      after = s.after;
      parts = parts ∙ (ap (λ (x : List Symbol). front ++ x) s.parts ∙ sym (append_assoc front s.before (s.symbol ∷ s.after)));
      place = s.place;
      settled = λ m.
          ap S (append_assoc front s.before (s.symbol ∷ m))
          ∙ pass (s.before ++ s.symbol ∷ m) (subst (λ x. SameHead x (s.before ++ s.symbol ∷ m)) (sym s.parts) (same_front s.before (s.symbol ∷ s.after) (s.symbol ∷ m) refl)) (faults.Limit kind line col) (s.settled m);
    }
stop_as R S front ts us (faults.Syntax line col) parts pass s = tt
stop_as R S front ts us (faults.Unsupported what line col) parts pass s = tt
stop_as R S front ts us faults.Memory parts pass s = tt

pub goes_as : {X Y : Type 0} (j k : ℕ) (R : List Symbol → ReadResult X) (S : List Symbol → ReadResult Y) (front ts us : List Symbol) (a : Read X) (y : Y) → ts ≡ front ++ us → k ≤ length front + j →
    ((m : List Symbol) → SameHead us m → (r : List Symbol) → R m ≡ read a.value r → S (front ++ m) ≡ read y r) → Goes X j R us a → Goes Y k S ts (record { value = y; rest = a.rest })
goes_as j k R S front ts us a y parts enough pass g =
    record {
      front = front ++ g.front;
      taken = omega (arith, enough, g.taken, length-append front g.front);
      parts = parts ∙ (ap (λ (x : List Symbol). front ++ x) g.parts ∙ sym (append_assoc front g.front a.rest));
      again = λ m s.
          ap S (append_assoc front g.front m)
          ∙ pass (g.front ++ m) (subst (λ x. SameHead x (g.front ++ m)) (sym g.parts) (same_front g.front a.rest m s)) m (g.again m s);
    }

-- ---- steps

-- a step, and what follows it
pub then_known : {X Y : Type 0} (j k : ℕ) → k ≤ j → (R : List Symbol → ReadResult X) (H : Read X → ReadResult Y) (ts : List Symbol) → Steady j R ts →
    ((a : Read X) → Goes X j R ts a → Steady 0 (λ us. H (record { value = a.value; rest = us })) a.rest) → Steady k (λ us. R us >>= H) ts
then_known {X} {Y} j k low R H ts h c = by (R ts) h
  where
    behind_it : (a : Read X) → Goes X j R ts a → (o : ReadResult Y) → SteadyBy 0 (λ us. H (record { value = a.value; rest = us })) a.rest o → SteadyBy k (λ us. R us >>= H) ts o
    behind_it a g (Ok b) w =
        goes_as 0 k (λ us. H (record { value = a.value; rest = us })) (λ us. R us >>= H) g.front ts a.rest b b.value g.parts (omega (arith, low, g.taken))
        (λ m s r e. ap (λ z. z >>= H) (g.again m s) ∙ e) w
    behind_it a g (Err f) w = stop_as (λ us. H (record { value = a.value; rest = us })) (λ us. R us >>= H) g.front ts a.rest f g.parts (λ m s e q. ap (λ z. z >>= H) (g.again m s) ∙ q) w

    by : (o : ReadResult X) → SteadyBy j R ts o → SteadyBy k (λ us. R us >>= H) ts (o >>= H)
    by (Ok a) g = behind_it a g (H a) (c a g)
    by (Err f) w = stop_as R (λ us. R us >>= H) [] ts ts f refl (λ m s e q. ap (λ z. z >>= H) q) w

-- a first step, which takes a symbol
pub first : {X Y : Type 0} (R : List Symbol → ReadResult X) (H : Read X → ReadResult Y) (ts : List Symbol) → Steady 1 R ts → ((a : Read X) → Steady 0 (λ us. H (record { value = a.value; rest = us })) a.rest) → Steady 1 (λ us. R us >>= H) ts
first R H ts h c = then_known 1 1 (omega arith) R H ts h (λ a g. c a)

-- a further step
pub next : {X Y : Type 0} (R : List Symbol → ReadResult X) (H : Read X → ReadResult Y) (ts : List Symbol) → Steady 1 R ts → ((a : Read X) → Steady 0 (λ us. H (record { value = a.value; rest = us })) a.rest) → Steady 0 (λ us. R us >>= H) ts
next R H ts h c = then_known 1 0 (omega arith) R H ts h (λ a g. c a)

-- a step that may take none
pub perhaps : {X Y : Type 0} (R : List Symbol → ReadResult X) (H : Read X → ReadResult Y) (ts : List Symbol) → Steady 0 R ts → ((a : Read X) → Steady 0 (λ us. H (record { value = a.value; rest = us })) a.rest) → Steady 0 (λ us. R us >>= H) ts
perhaps R H ts h c = then_known 0 0 (omega arith) R H ts h (λ a g. c a)

-- the same on all that begin so
pub steady_as : {X : Type 0} (k : ℕ) (R S : List Symbol → ReadResult X) (ts : List Symbol) → ((m : List Symbol) → SameHead ts m → S m ≡ R m) → S ts ≡ R ts → Steady k R ts → Steady k S ts
steady_as {X} k R S ts eq e h = subst (SteadyBy k S ts) (sym e) (by (R ts) h)
  where
    by : (o : ReadResult X) → SteadyBy k R ts o → SteadyBy k S ts o
    by (Ok a) g = goes_as k k R S [] ts ts a a.value refl (omega arith) (λ m s r q. eq m s ∙ q) g
    by (Err f) w = stop_as R S [] ts ts f refl (λ m s x q. eq m s ∙ q) w

pub steady_all : {X : Type 0} (k : ℕ) (R S : List Symbol → ReadResult X) (ts : List Symbol) → ((m : List Symbol) → S m ≡ R m) → Steady k R ts → Steady k S ts
steady_all k R S ts eq h = steady_as k R S ts (λ m s. eq m) (eq ts) h

pub weaker : {X : Type 0} (R : List Symbol → ReadResult X) (ts : List Symbol) → Steady 1 R ts → Steady 0 R ts
weaker {X} R ts h = by (R ts) h
  where
    by : (o : ReadResult X) → SteadyBy 1 R ts o → SteadyBy 0 R ts o
    by (Ok a) g = goes_as 1 0 R R [] ts ts a a.value refl (omega arith) (λ m s r q. q) g
    by (Err f) w = w

pub on_head : (P : List Symbol → Type 0) (t : Symbol) → ((us : List Symbol) → P (t ∷ us)) → (r m : List Symbol) → SameHead (t ∷ r) m → P m
on_head P t h r [] s = absurd s
on_head P t h r (u ∷ us) s = subst (λ x. P (x ∷ us)) s (h us)

-- the same on all that begin with that symbol
pub by_head : {X : Type 0} (k : ℕ) (R S : List Symbol → ReadResult X) (t : Symbol) (r : List Symbol) → ((us : List Symbol) → S (t ∷ us) ≡ R (t ∷ us)) → Steady k R (t ∷ r) → Steady k S (t ∷ r)
by_head k R S t r eq h = steady_as k R S (t ∷ r) (on_head (λ m. S m ≡ R m) t eq r) (eq r) h

-- the symbol is taken, and what follows it is read
pub by_tail : {X : Type 0} (Q S : List Symbol → ReadResult X) (t : Symbol) (r : List Symbol) → ((us : List Symbol) → S (t ∷ us) ≡ Q us) → Steady 0 Q r → Steady 1 S (t ∷ r)
by_tail {X} Q S t r eq h = subst (SteadyBy 1 S (t ∷ r)) (sym (eq r)) (by (Q r) h)
  where
    by : (o : ReadResult X) → SteadyBy 0 Q r o → SteadyBy 1 S (t ∷ r) o
    by (Ok a) g = goes_as 0 1 Q S (t ∷ []) (t ∷ r) r a a.value refl (omega arith) (λ m s x q. eq m ∙ q) g
    by (Err f) w = stop_as Q S (t ∷ []) (t ∷ r) r f refl (λ m s x q. eq m ∙ q) w

-- the symbol is past a limit
pub by_limit : {X : Type 0} (k : ℕ) (S : List Symbol → ReadResult X) (t : Symbol) (r : List Symbol) (kind : Which) → ((us : List Symbol) → S (t ∷ us) ≡ Err (limit_fault kind t.span)) → Steady k S (t ∷ r)
by_limit k S t r kind eq = subst (SteadyBy k S (t ∷ r)) (sym (eq r)) (record { before = []; symbol = t; after = r; parts = refl; place = refl; settled = eq })

pub by_syntax : {X : Type 0} (k : ℕ) (S : List Symbol → ReadResult X) (ts : List Symbol) (here : Span) → S ts ≡ Err (syntax_fault here) → Steady k S ts
by_syntax k S ts here e = subst (SteadyBy k S ts) (sym e) tt

pub taken_none : {X : Type 0} (x : X) (ts : List Symbol) → Steady 0 (λ us. read x us) ts
taken_none x ts = record { front = []; taken = omega arith; parts = refl; again = λ m s. refl }

-- no symbols at all settle nothing
pub by_none : {X : Type 0} (k : ℕ) (R S : List Symbol → ReadResult X) → S [] ≡ R [] → Steady k R [] → Steady k S []
by_none k R S e h = steady_as k R S [] (λ m s. absurd s) e h

and_is : {X Y : Type 0} (x : ReadResult X) (G : X → List Symbol → ReadResult Y) → and_then x G ≡ (x >>= (λ a. G a.value a.rest))
and_is (Ok a) G = refl
and_is (Err f) G = refl

pub first_and : {X Y : Type 0} (R : List Symbol → ReadResult X) (G : X → List Symbol → ReadResult Y) (ts : List Symbol) → Steady 1 R ts → ((a : X) (r : List Symbol) → Steady 0 (G a) r) → Steady 1 (λ us. and_then (R us) G) ts
first_and R G ts h c = steady_all 1 (λ us. R us >>= (λ a. G a.value a.rest)) (λ us. and_then (R us) G) ts (λ us. and_is (R us) G) (first R (λ a. G a.value a.rest) ts h (λ a. c a.value a.rest))

-- the value is changed alone
pub mapped : {X Y : Type 0} (k : ℕ) (R : List Symbol → ReadResult X) (F : ReadResult X → ReadResult Y) (g : X → Y) (ts : List Symbol) → ((x : X) (r : List Symbol) → F (read x r) ≡ read (g x) r) → ((e : Fault) → F (Err e) ≡ Err e) →
    Steady k R ts → Steady k (λ us. F (R us)) ts
mapped {X} {Y} k R F g ts values faulty h = by (R ts) h
  where
    by : (o : ReadResult X) → SteadyBy k R ts o → SteadyBy k (λ us. F (R us)) ts (F o)
    by (Ok a) w = subst (SteadyBy k (λ us. F (R us)) ts) (sym (values a.value a.rest)) (goes_as k k R (λ us. F (R us)) [] ts ts a (g a.value) refl (omega arith) (λ m s r q. ap F q ∙ values a.value r) w)
    by (Err f) w = subst (SteadyBy k (λ us. F (R us)) ts) (sym (faulty f)) (stop_as R (λ us. F (R us)) [] ts ts f refl (λ m s e q. ap F q ∙ faulty e) w)

-- ---- a word or mark that is looked for

-- what follows the first symbol is read
abbrev pub tail : {X : Type 0} → (List Symbol → ReadResult X) → List Symbol → ReadResult X
tail Q [] = Err faults.Memory
tail Q (u ∷ us) = Q us

pub steady_tail : {X : Type 0} (Q : List Symbol → ReadResult X) (t : Symbol) (r : List Symbol) → Steady 0 Q r → Steady 1 (tail Q) (t ∷ r)
steady_tail Q t r h = by_tail Q (tail Q) t r (λ us. refl) h

pub by_seen : {X : Type 0} (k : ℕ) (w : Fixed) (F : List Symbol → Option (Read Span) → ReadResult X) (ts : List Symbol) → Steady k (λ us. F us None) ts →
    ((t : Symbol) (r : List Symbol) → ts ≡ t ∷ r → Steady k (tail (λ us. F (t ∷ us) (Some (record { value = t.span; rest = us })))) (t ∷ r)) → Steady k (λ us. F us (seen w us)) ts
unfolding seen
by_seen k w F [] none some = steady_as k (λ us. F us None) (λ us. F us (seen w us)) [] (λ m s. absurd s) refl none
by_seen {X} k w F (t ∷ r) none some = by (says w t.sign) refl
  where
    S : List Symbol → ReadResult X
    S us = F us (seen w us)

    by : (b : Bool) → says w t.sign ≡ b → Steady k S (t ∷ r)
    by true e = by_head k (tail (λ us. F (t ∷ us) (Some (record { value = t.span; rest = us })))) S t r (λ us. ap (λ b. F (t ∷ us) (if b then Some (record { value = t.span; rest = us }) else None)) e) (some t r refl)
    by false e = by_head k (λ us. F us None) S t r (λ us. ap (λ b. F (t ∷ us) (if b then Some (record { value = t.span; rest = us }) else None)) e) none

pub seen_first : {X : Type 0} (w : Fixed) (F : List Symbol → Option (Read Span) → ReadResult X) (ts : List Symbol) → Steady 1 (λ us. F us None) ts →
    ((t : Symbol) (r : List Symbol) → ts ≡ t ∷ r → Steady 0 (λ us. F (t ∷ us) (Some (record { value = t.span; rest = us }))) r) → Steady 1 (λ us. F us (seen w us)) ts
seen_first w F ts none some = by_seen 1 w F ts none (λ t r e. by_tail (λ us. F (t ∷ us) (Some (record { value = t.span; rest = us }))) (tail (λ us. F (t ∷ us) (Some (record { value = t.span; rest = us })))) t r (λ us. refl) (some t r e))

pub seen_next : {X : Type 0} (w : Fixed) (F : List Symbol → Option (Read Span) → ReadResult X) (ts : List Symbol) → Steady 0 (λ us. F us None) ts →
    ((t : Symbol) (r : List Symbol) → ts ≡ t ∷ r → Steady 0 (λ us. F (t ∷ us) (Some (record { value = t.span; rest = us }))) r) → Steady 0 (λ us. F us (seen w us)) ts
seen_next w F ts none some = by_seen 0 w F ts none (λ t r e. weaker (tail (λ us. F (t ∷ us) (Some (record { value = t.span; rest = us })))) (t ∷ r) (by_tail (λ us. F (t ∷ us) (Some (record { value = t.span; rest = us }))) (tail (λ us. F (t ∷ us) (Some (record { value = t.span; rest = us })))) t r (λ us. refl) (some t r e)))

pub seen_shorter : (w : Fixed) (us : List Symbol) → IfSome (seen w us) (λ x. length x.rest < length us)
unfolding seen
seen_shorter w [] = tt
seen_shorter w (t ∷ us) = cond_both (says w t.sign) (Some (record { value = t.span; rest = us })) None (λ (o : Option (Read Span)). IfSome o (λ x. length x.rest < suc (length us))) (λ _. omega arith) (λ _. tt)

-- ---- what may stand there

pub there_as : {X : Type 0} (R : List Symbol → ReadResult X) (S : List Symbol → Possible X) (t : Symbol) (r : List Symbol) → ((us : List Symbol) → S (t ∷ us) ≡ there (R (t ∷ us))) → Steady 1 R (t ∷ r) → Maybe S (t ∷ r)
there_as {X} R S t r eq h = subst (MaybeBy S (t ∷ r)) (sym (eq r)) (by (R (t ∷ r)) h)
  where
    on : (m : List Symbol) → SameHead (t ∷ r) m → S m ≡ there (R m)
    on m s = on_head (λ m. S m ≡ there (R m)) t eq r m s

    by : (o : ReadResult X) → SteadyBy 1 R (t ∷ r) o → MaybeBy S (t ∷ r) (there o)
    by (Ok a) g =
        record {
          front = g.front;
          taken = g.taken;
          parts = g.parts;
          again = λ m s. on (g.front ++ m) (subst (λ x. SameHead x (g.front ++ m)) (sym g.parts) (same_front g.front a.rest m s)) ∙ ap there (g.again m s);
        }
    by (Err f) w = stop_as R S [] (t ∷ r) (t ∷ r) f refl (λ m s e q. on m s ∙ ap there q) w

pub there_behind : {X : Type 0} (Q : List Symbol → ReadResult X) (S : List Symbol → Possible X) (t : Symbol) (r : List Symbol) → ((us : List Symbol) → S (t ∷ us) ≡ there (Q us)) → Steady 0 Q r → Maybe S (t ∷ r)
there_behind Q S t r eq h = there_as (tail Q) S t r eq (by_tail Q (tail Q) t r (λ us. refl) h)

pub none_there : {X : Type 0} (S : List Symbol → Possible X) (t : Symbol) (r : List Symbol) → ((us : List Symbol) → S (t ∷ us) ≡ Ok None) → Maybe S (t ∷ r)
none_there S t r eq = subst (MaybeBy S (t ∷ r)) (sym (eq r)) (on_head (λ m. S m ≡ Ok None) t eq r)

pub nothing_there : {X : Type 0} (S : List Symbol → Possible X) → S [] ≡ Ok None → Maybe S []
nothing_there S e = subst (MaybeBy S []) (sym e) (λ m s. absurd s)

-- the same on all that begin with that symbol
pub maybe_head : {X : Type 0} (R S : List Symbol → Possible X) (t : Symbol) (r : List Symbol) → ((us : List Symbol) → S (t ∷ us) ≡ R (t ∷ us)) → Maybe R (t ∷ r) → Maybe S (t ∷ r)
maybe_head {X} R S t r eq h = subst (MaybeBy S (t ∷ r)) (sym (eq r)) (by (R (t ∷ r)) h)
  where
    on : (m : List Symbol) → SameHead (t ∷ r) m → S m ≡ R m
    on m s = on_head (λ m. S m ≡ R m) t eq r m s

    by : (o : Possible X) → MaybeBy R (t ∷ r) o → MaybeBy S (t ∷ r) o
    by (Ok None) h = λ m s. on m s ∙ h m s
    by (Ok (Some a)) g =
        record {
          front = g.front;
          taken = g.taken;
          parts = g.parts;
          again = λ m s. on (g.front ++ m) (subst (λ x. SameHead x (g.front ++ m)) (sym g.parts) (same_front g.front a.rest m s)) ∙ g.again m s;
        }
    by (Err f) w = stop_as R S [] (t ∷ r) (t ∷ r) f refl (λ m s e q. on m s ∙ q) w

pub maybe_none : {X : Type 0} (R S : List Symbol → Possible X) → S [] ≡ R [] → Maybe R [] → Maybe S []
maybe_none {X} R S e h = subst (MaybeBy S []) (sym e) (by (R []) h)
  where
    by : (o : Possible X) → MaybeBy R [] o → MaybeBy S [] o
    by (Ok None) h = λ m s. absurd s
    by (Ok (Some a)) g = let long : 0 ≡ length g.front + length a.rest = ap length g.parts ∙ length-append g.front a.rest in absurd (omega (arith, long, g.taken))
    by (Err f) w = stop_as R S [] [] [] f refl (λ m s e q. absurd s) w

-- what follows the first symbol, if it stands there
abbrev pub maybe_tail : {X : Type 0} → (List Symbol → Possible X) → List Symbol → Possible X
maybe_tail Q [] = Ok None
maybe_tail Q (u ∷ us) = Q us

pub maybe_seen : {X : Type 0} (w : Fixed) (F : List Symbol → Option (Read Span) → Possible X) (Q : Symbol → List Symbol → ReadResult X) (ts : List Symbol) →
    ((t : Symbol) (us : List Symbol) → F (t ∷ us) (Some (record { value = t.span; rest = us })) ≡ there (Q t us)) → Maybe (λ us. F us None) ts → ((t : Symbol) (r : List Symbol) → Steady 0 (Q t) r) → Maybe (λ us. F us (seen w us)) ts
unfolding seen
maybe_seen w F Q [] eq none some = maybe_none (λ us. F us None) (λ us. F us (seen w us)) refl none
maybe_seen {X} w F Q (t ∷ r) eq none some = by (says w t.sign) refl
  where
    S : List Symbol → Possible X
    S us = F us (seen w us)

    by : (b : Bool) → says w t.sign ≡ b → Maybe S (t ∷ r)
    by true e = there_behind (Q t) S t r (λ us. ap (λ b. F (t ∷ us) (if b then Some (record { value = t.span; rest = us }) else None)) e ∙ eq t us) (some t r)
    by false e = maybe_head (λ us. F us None) S t r (λ us. ap (λ b. F (t ∷ us) (if b then Some (record { value = t.span; rest = us }) else None)) e) none

pub one_maybe : {X : Type 0} (R : List Symbol → Possible X) (ts : List Symbol) → Maybe R ts → Maybe (λ us. one_there (R us)) ts
one_maybe {X} R ts h = by (R ts) h
  where
    by : (o : Possible X) → MaybeBy R ts o → MaybeBy (λ us. one_there (R us)) ts (one_there o)
    by (Ok None) h = λ m s. ap one_there (h m s)
    by (Ok (Some a)) g = record { front = g.front; taken = g.taken; parts = g.parts; again = λ m s. ap one_there (g.again m s) }
    by (Err f) w = stop_as R (λ us. one_there (R us)) [] ts ts f refl (λ m s e q. ap one_there q) w

-- ---- lists

module _ {X : Type 0} (f : ℕ → List Symbol → ReadResult (List X)) (end : Span) (items : (n : ℕ) (us : List Symbol) → Steady 1 (f n) us) (none : (n : ℕ) → f n [] ≡ refused end []) where
  more_same : (A B : List Symbol → ReadResult (List X)) (xs : List X) (ts : List Symbol) (o : Option (Read Span)) → IfSome o (λ x. A x.rest ≡ B x.rest) → more_by A xs ts o ≡ more_by B xs ts o
  more_same A B xs ts None h = refl
  more_same A B xs ts (Some comma) h = ap (with_front xs) h

  -- no more turns are needed than there are symbols
  turns_enough : (k j n : ℕ) (us : List Symbol) → length us ≤ k → length us ≤ j → separated f end n k us ≡ separated f end n j us
  unfolding separated
  turns_enough zero zero n us low high = refl
  turns_enough zero (suc j) n [] low high = sym (ap (λ z. z >>= (λ xs. more_by (separated f end (n - length xs.value) j) xs.value xs.rest (seen fixed.Comma xs.rest))) (none n))
  turns_enough zero (suc j) n (t ∷ us) low high = absurd (omega (arith, low))
  turns_enough (suc k) zero n [] low high = ap (λ z. z >>= (λ xs. more_by (separated f end (n - length xs.value) k) xs.value xs.rest (seen fixed.Comma xs.rest))) (none n)
  turns_enough (suc k) zero n (t ∷ us) low high = absurd (omega (arith, high))
  turns_enough (suc k) (suc j) n us low high = by (λ m vs x y. turns_enough k j m vs x y) (f n us) (items n us)
    where
      short : ((m : ℕ) (vs : List Symbol) → length vs ≤ k → length vs ≤ j → separated f end m k vs ≡ separated f end m j vs) → (xs : Read (List X)) → Goes (List X) 1 (f n) us xs →
          (o : Option (Read Span)) → IfSome o (λ x. length x.rest < length xs.rest) → IfSome o (λ x. separated f end (n - length xs.value) k x.rest ≡ separated f end (n - length xs.value) j x.rest)
      short again xs g None h = tt
      short again xs g (Some x) h =
          let long : length us ≡ length g.front + length xs.rest = ap length g.parts ∙ length-append g.front xs.rest in
          again (n - length xs.value) x.rest (omega (arith, h, long, low)) (omega (arith, h, long, high))

      by : ((m : ℕ) (vs : List Symbol) → length vs ≤ k → length vs ≤ j → separated f end m k vs ≡ separated f end m j vs) → (o : ReadResult (List X)) → SteadyBy 1 (f n) us o →
          (o >>= (λ xs. more_by (separated f end (n - length xs.value) k) xs.value xs.rest (seen fixed.Comma xs.rest))) ≡ (o >>= (λ xs. more_by (separated f end (n - length xs.value) j) xs.value xs.rest (seen fixed.Comma xs.rest)))
      by again (Ok xs) g = more_same (separated f end (n - length xs.value) k) (separated f end (n - length xs.value) j) xs.value xs.rest (seen fixed.Comma xs.rest) (short again xs g (seen fixed.Comma xs.rest) (seen_shorter fixed.Comma xs.rest))
      by again (Err e) w = refl

  abbrev pub list_of : ℕ → List Symbol → ReadResult (List X)
  list_of n us = separated f end n (length us) us

  abbrev pub turn_of : ℕ → List Symbol → ReadResult (List X)
  turn_of n us = f n us >>= (λ xs. more_by (list_of (n - length xs.value)) xs.value xs.rest (seen fixed.Comma xs.rest))

  pub unrolled : (n : ℕ) (us : List Symbol) → list_of n us ≡ turn_of n us
  unfolding separated
  unrolled n [] = sym (ap (λ z. z >>= (λ xs. more_by (list_of (n - length xs.value)) xs.value xs.rest (seen fixed.Comma xs.rest))) (none n))
  unrolled n (t ∷ us) = by (f n (t ∷ us)) (items n (t ∷ us))
    where
      short : (xs : Read (List X)) → Goes (List X) 1 (f n) (t ∷ us) xs → (o : Option (Read Span)) → IfSome o (λ x. length x.rest < length xs.rest) →
          IfSome o (λ x. separated f end (n - length xs.value) (length us) x.rest ≡ list_of (n - length xs.value) x.rest)
      short xs g None h = tt
      short xs g (Some x) h =
          let long : length (t ∷ us) ≡ length g.front + length xs.rest = ap length g.parts ∙ length-append g.front xs.rest in
          turns_enough (length us) (length x.rest) (n - length xs.value) x.rest (omega (arith, h, long)) (omega arith)

      by : (o : ReadResult (List X)) → SteadyBy 1 (f n) (t ∷ us) o →
          (o >>= (λ xs. more_by (separated f end (n - length xs.value) (length us)) xs.value xs.rest (seen fixed.Comma xs.rest))) ≡ (o >>= (λ xs. more_by (list_of (n - length xs.value)) xs.value xs.rest (seen fixed.Comma xs.rest)))
      by (Ok xs) g = more_same (separated f end (n - length xs.value) (length us)) (list_of (n - length xs.value)) xs.value xs.rest (seen fixed.Comma xs.rest) (short xs g (seen fixed.Comma xs.rest) (seen_shorter fixed.Comma xs.rest))
      by (Err e) w = refl

  list_by : (k n : ℕ) (ts : List Symbol) → length ts ≤ k → Steady 1 (list_of n) ts
  unfolding separated
  list_by zero n [] low = tt
  list_by zero n (t ∷ ts) low = absurd (omega (arith, low))
  list_by (suc k) n ts low =
      steady_all 1 (turn_of n) (list_of n) ts (unrolled n)
      (then_known 1 1 (omega arith) (f n) (λ xs. more_by (list_of (n - length xs.value)) xs.value xs.rest (seen fixed.Comma xs.rest)) ts (items n ts)
      (λ xs g.
      seen_next fixed.Comma (λ us o. more_by (list_of (n - length xs.value)) xs.value us o) xs.rest (taken_none xs.value xs.rest)
      (λ t r e.
      let long : length ts ≡ length g.front + length xs.rest = ap length g.parts ∙ length-append g.front xs.rest in
      let one : length xs.rest ≡ suc (length r) = ap length e in
      weaker (λ us. with_front xs.value (list_of (n - length xs.value) us)) r
      (mapped 1 (list_of (n - length xs.value)) (with_front xs.value) (λ ys. xs.value ++ ys) r (λ ys us. refl) (λ e. refl)
      (list_by k (n - length xs.value) r (omega (arith, low, long, one)))))))

  pub separated_steady : (n : ℕ) (ts : List Symbol) → Steady 1 (list_of n) ts
  separated_steady n ts = list_by (length ts) n ts (omega arith)

-- ---- items one behind the other

module _ {X : Type 0} (f : ℕ → List Symbol → Possible (List X)) (used : List X → ℕ) (items : (n : ℕ) (us : List Symbol) → Maybe (f n) us) (none : (n : ℕ) → f n [] ≡ Ok None) where
  -- no more turns are needed than there are symbols
  repeats_enough : (k j n : ℕ) (us : List Symbol) → length us ≤ k → length us ≤ j → repeated f used n k us ≡ repeated f used n j us
  unfolding repeated
  repeats_enough zero zero n us low high = refl
  repeats_enough zero (suc j) n [] low high = sym (ap (repeated_by (λ xs vs. repeated f used (n - used xs) j vs) []) (none n))
  repeats_enough zero (suc j) n (t ∷ us) low high = absurd (omega (arith, low))
  repeats_enough (suc k) zero n [] low high = ap (repeated_by (λ xs vs. repeated f used (n - used xs) k vs) []) (none n)
  repeats_enough (suc k) zero n (t ∷ us) low high = absurd (omega (arith, high))
  repeats_enough (suc k) (suc j) n us low high = by (λ m vs x y. repeats_enough k j m vs x y) (f n us) (items n us)
    where
      by : ((m : ℕ) (vs : List Symbol) → length vs ≤ k → length vs ≤ j → repeated f used m k vs ≡ repeated f used m j vs) → (o : Possible (List X)) → MaybeBy (f n) us o →
          repeated_by (λ xs vs. repeated f used (n - used xs) k vs) us o ≡ repeated_by (λ xs vs. repeated f used (n - used xs) j vs) us o
      by again (Ok None) h = refl
      by again (Ok (Some a)) g =
          let long : length us ≡ length g.front + length a.rest = ap length g.parts ∙ length-append g.front a.rest in
          ap (with_front a.value) (again (n - used a.value) a.rest (omega (arith, g.taken, long, low)) (omega (arith, g.taken, long, high)))
      by again (Err e) w = refl

  abbrev items_of : ℕ → List Symbol → ReadResult (List X)
  items_of n us = repeated f used n (length us) us

  abbrev item_of : ℕ → List Symbol → Possible (List X) → ReadResult (List X)
  item_of n us o = repeated_by (λ xs vs. items_of (n - used xs) vs) us o

  unrepeated : (n : ℕ) (us : List Symbol) → items_of n us ≡ item_of n us (f n us)
  unfolding repeated
  unrepeated n [] = sym (ap (item_of n []) (none n))
  unrepeated n (t ∷ us) = by (f n (t ∷ us)) (items n (t ∷ us))
    where
      by : (o : Possible (List X)) → MaybeBy (f n) (t ∷ us) o → repeated_by (λ xs vs. repeated f used (n - used xs) (length us) vs) (t ∷ us) o ≡ item_of n (t ∷ us) o
      by (Ok None) h = refl
      by (Ok (Some a)) g =
          let long : length (t ∷ us) ≡ length g.front + length a.rest = ap length g.parts ∙ length-append g.front a.rest in
          ap (with_front a.value) (repeats_enough (length us) (length a.rest) (n - used a.value) a.rest (omega (arith, g.taken, long)) (omega arith))
      by (Err e) w = refl

  items_by : (k n : ℕ) (ts : List Symbol) → length ts ≤ k → Steady 0 (items_of n) ts
  unfolding repeated
  items_by zero n [] low = by_none 0 (λ us. read [] us) (items_of n) refl (taken_none [] [])
  items_by zero n (t ∷ ts) low = absurd (omega (arith, low))
  items_by (suc k) n ts low = steady_all 0 (λ us. item_of n us (f n us)) (items_of n) ts (unrepeated n) (by (λ m vs x. items_by k m vs x) (f n ts) (items n ts))
    where
      S : List Symbol → ReadResult (List X)
      S us = item_of n us (f n us)

      behind_it : (a : Read (List X)) → Stands (List X) (f n) ts a → (o : ReadResult (List X)) → SteadyBy 0 (items_of (n - used a.value)) a.rest o → SteadyBy 0 S ts (with_front a.value o)
      behind_it a g (Ok b) w =
          goes_as 0 0 (items_of (n - used a.value)) S g.front ts a.rest b (a.value ++ b.value) g.parts (omega arith)
          (λ m s r e. ap (item_of n (g.front ++ m)) (g.again m s) ∙ ap (with_front a.value) e) w
      behind_it a g (Err e) w = stop_as (items_of (n - used a.value)) S g.front ts a.rest e g.parts (λ m s x q. ap (item_of n (g.front ++ m)) (g.again m s) ∙ ap (with_front a.value) q) w

      by : ((m : ℕ) (vs : List Symbol) → length vs ≤ k → Steady 0 (items_of m) vs) → (o : Possible (List X)) → MaybeBy (f n) ts o → SteadyBy 0 S ts (item_of n ts o)
      by again (Ok None) h = record { front = []; taken = omega arith; parts = refl; again = λ m s. ap (item_of n m) (h m s) }
      by again (Ok (Some a)) g =
          let long : length ts ≡ length g.front + length a.rest = ap length g.parts ∙ length-append g.front a.rest in
          behind_it a g (items_of (n - used a.value) a.rest) (again (n - used a.value) a.rest (omega (arith, g.taken, long, low)))
      by again (Err e) w = stop_as (f n) S [] ts ts e refl (λ m s x q. ap (item_of n m) q) w

  pub repeated_steady : (n : ℕ) (ts : List Symbol) → Steady 0 (items_of n) ts
  repeated_steady n ts = items_by (length ts) n ts (omega arith)
