-- A limit stands at a symbol that the grammar allows there: the tools for it, whatever the rule. What is read is told by the symbols before and behind it alone.
use Rattle.std.proofs.Common.{◌≡◌, ℕ, zero, suc, ◌-◌, List, [], ◌∷◌, ◌++◌, length, Option, None, Some, IfSome, Result, Ok, Err, IfOk, refl, ap, sym, ◌∙◌, subst, append_assoc}
use Rattle.boogie_tree.specs.declared.span.Span.{Span}
use Rattle.boogie_tree.specs.Places.{beginning}
use Rattle.boogie_parse.specs.declared.fault.Fault.{Fault}
use Rattle.boogie_parse.specs.declared.fault.Fault.TheVariants as faults
use Rattle.boogie_parse.specs.declared.fault.Which.{Which}
use Rattle.boogie_parse.specs.declared.fault.Which.TheVariants as limits
use Rattle.boogie_parse.specs.declared.symbols.Fixed.{Fixed}
use Rattle.boogie_parse.specs.declared.symbols.Fixed.TheVariants as fixed
use Rattle.boogie_parse.specs.declared.symbols.Sign.TheVariants as signs
use Rattle.boogie_parse.specs.declared.symbols.Symbol.{Symbol}
use Rattle.boogie_parse.specs.Reading.Outcomes.{Read, ReadResult, limit_fault, and_then}
use Rattle.boogie_parse.specs.Rules.Grammar.{Is}
use Rattle.boogie_parse.specs.Reading.ListReading.{◌>>=◌, read, Possible, there, one, one_there, seen, must_be, behind, opened_by, opened, with_front, more_by, separated, repeated_by, repeated}
use Rattle.boogie_parse.proofs.Faults.SettledTools.{SameHead, same_front, Goes, SteadyBy, Steady, MaybeBy, Maybe}
use Rattle.boogie_parse.proofs.Faults.SettledTools as settled
use Rattle.boogie_parse.proofs.Rules.ListSound.{seen-sound}
use Rattle.boogie_parse.proofs.Rules.ListSound as words
use Rattle.boogie_parse.proofs.Faults.SettledPrograms.{steady_behind, steady_opened}
use Rattle.boogie_parse.proofs.Rules.ConditionSound.{IfThere}

-- what may stand before some symbols
abbrev pub Relation : Type 1
Relation = List Symbol → List Symbol → Type 0

-- that word or mark
pub data Mark (f : Fixed) : List Symbol → List Symbol → Type 0 where
  mark : {r : List Symbol} (t : Symbol) → Is t f → Mark f (t ∷ r) r

-- The limit stands at one of the symbols, up to which something of the relation begins.
pub record Begun (G : Relation) (ts : List Symbol) (kind : Which) (line col : ℕ) : Type 0 where
  pub before : List Symbol
  pub symbol : Symbol
  pub after : List Symbol
  pub parts : ts ≡ before ++ symbol ∷ after
  pub place : limit_fault kind symbol.span ≡ faults.Limit kind line col
  pub more : List Symbol → List Symbol
  pub begins : (r : List Symbol) → G (before ++ symbol ∷ more r) r

abbrev pub BegunBy : Relation → List Symbol → Fault → Type 0
BegunBy G ts (faults.Limit kind line col) = Begun G ts kind line col
BegunBy G ts (faults.Syntax line col) = Unit {0}
BegunBy G ts (faults.Unsupported what line col) = Unit {0}
BegunBy G ts faults.Memory = Unit {0}

abbrev pub BegunIf : {A : Type 0} → Relation → List Symbol → Result A Fault → Type 0
BegunIf G ts (Ok a) = Unit {0}
BegunIf G ts (Err f) = BegunBy G ts f

-- some symbols of the relation
pub record Filled (G : Relation) : Type 0 where
  pub symbols : List Symbol → List Symbol
  pub fills : (r : List Symbol) → G (symbols r) r

pub begun_as : (G K : Relation) (front ts us : List Symbol) (f : Fault) (finish : List Symbol → List Symbol) → ts ≡ front ++ us →
    ((n r : List Symbol) → SameHead us n → G n (finish r) → K (front ++ n) r) → BegunBy G us f → BegunBy K ts f
begun_as G K front ts us (faults.Limit kind line col) finish parts pass s =
    record {
      before = front ++ s.before;
      symbol = s.symbol;
      after = s.after;
      parts = parts ∙ (ap (λ (x : List Symbol). front ++ x) s.parts ∙ sym (append_assoc front s.before (s.symbol ∷ s.after)));
      place = s.place;
      more = λ r. s.more (finish r);
      begins = λ r.
          let n : List Symbol = s.before ++ s.symbol ∷ s.more (finish r) in
          let same : SameHead us n = subst (λ x. SameHead x n) (sym s.parts) (same_front s.before (s.symbol ∷ s.after) (s.symbol ∷ s.more (finish r)) refl) in
          subst (λ x. K x r) (sym (append_assoc front s.before (s.symbol ∷ s.more (finish r)))) (pass n r same (s.begins (finish r)));
    }
begun_as G K front ts us (faults.Syntax line col) finish parts pass s = tt
begun_as G K front ts us (faults.Unsupported what line col) finish parts pass s = tt
begun_as G K front ts us faults.Memory finish parts pass s = tt

-- the limit stands at this symbol
pub begun_at : (K : Relation) (t : Symbol) (ts : List Symbol) (kind : Which) (more : List Symbol → List Symbol) → ((r : List Symbol) → K (t ∷ more r) r) → BegunBy K (t ∷ ts) (limit_fault kind t.span)
begun_at K t ts kind more h = record { before = []; symbol = t; after = ts; parts = refl; place = refl; more = more; begins = h }

pub begun_map : {A : Type 0} (G K : Relation) (ts : List Symbol) (o : Result A Fault) → ((n r : List Symbol) → G n r → K n r) → BegunIf G ts o → BegunIf K ts o
begun_map G K ts (Ok a) f h = tt
begun_map G K ts (Err e) f h = begun_as G K [] ts ts e (λ r. r) refl (λ n r s g. f n r g) h

-- behind one symbol
pub begun_behind : {A : Type 0} (G K : Relation) (t : Symbol) (ts : List Symbol) (o : Result A Fault) → ((n r : List Symbol) → G n r → K (t ∷ n) r) → BegunIf G ts o → BegunIf K (t ∷ ts) o
begun_behind G K t ts (Ok a) f h = tt
begun_behind G K t ts (Err e) f h = begun_as G K (t ∷ []) (t ∷ ts) ts e (λ r. r) refl (λ n r s g. f n r g) h

-- the faults are the same
pub begun_there : {X : Type 0} (K : Relation) (ts : List Symbol) (o : ReadResult X) → BegunIf K ts o → BegunIf K ts (there o)
begun_there K ts (Ok a) h = tt
begun_there K ts (Err e) h = h

pub begun_one : {X : Type 0} (K : Relation) (ts : List Symbol) (o : ReadResult X) → BegunIf K ts o → BegunIf K ts (one o)
begun_one K ts (Ok a) h = tt
begun_one K ts (Err e) h = h

pub begun_one_there : {X : Type 0} (K : Relation) (ts : List Symbol) (o : Possible X) → BegunIf K ts o → BegunIf K ts (one_there o)
begun_one_there K ts (Ok None) h = tt
begun_one_there K ts (Ok (Some a)) h = tt
begun_one_there K ts (Err e) h = h

pub begun_front : {X : Type 0} (K : Relation) (ts : List Symbol) (xs : List X) (o : ReadResult (List X)) → BegunIf K ts o → BegunIf K ts (with_front xs o)
begun_front K ts xs (Ok a) h = tt
begun_front K ts xs (Err e) h = h

-- what is read alike is sound alike
again_sound : {A : Type 0} (R : List Symbol → ReadResult A) (G : Relation) (us : List Symbol) (a : Read A) → R us ≡ Ok a → IfOk (R us) (λ x. G us x.rest) → G us a.rest
again_sound R G us a e h = subst (λ o. IfOk o (λ x. G us x.rest)) e h

-- a step, and what follows it where the step is so
pub begun_when : {A B : Type 0} (j : ℕ) (R : List Symbol → ReadResult A) (H : Read A → ReadResult B) (G S K : Relation) (ts : List Symbol) → Steady j R ts → ((us : List Symbol) → IfOk (R us) (λ a. G us a.rest)) →
    ((n m r : List Symbol) → G n m → S m r → K n r) → Filled S → BegunIf G ts (R ts) → ((a : Read A) → R ts ≡ Ok a → BegunIf S a.rest (H a)) → BegunIf K ts (R ts >>= H)
begun_when {A} {B} j R H G S K ts steady sound join filled first next = by (R ts) refl steady first
  where
    behind_it : (a : Read A) → Goes A j R ts a → (o : ReadResult B) → BegunIf S a.rest o → BegunIf K ts o
    behind_it a g (Ok b) h = tt
    behind_it a g (Err f) h =
        begun_as S K g.front ts a.rest f (λ r. r) g.parts
        (λ n r same s. join (g.front ++ n) n r (again_sound R G (g.front ++ n) (record { value = a.value; rest = n }) (g.again n same) (sound (g.front ++ n))) s) h

    by : (o : ReadResult A) → R ts ≡ o → SteadyBy j R ts o → BegunIf G ts o → BegunIf K ts (o >>= H)
    by (Ok a) e g h = behind_it a g (H a) (next a e)
    by (Err f) e w h = begun_as G K [] ts ts f filled.symbols refl (λ n r same g. join n (filled.symbols r) r g (filled.fills r)) h

-- a step, and what follows it
pub begun_then : {A B : Type 0} (j : ℕ) (R : List Symbol → ReadResult A) (H : Read A → ReadResult B) (G S K : Relation) (ts : List Symbol) → Steady j R ts → ((us : List Symbol) → IfOk (R us) (λ a. G us a.rest)) →
    ((n m r : List Symbol) → G n m → S m r → K n r) → Filled S → BegunIf G ts (R ts) → ((a : A) (us : List Symbol) → BegunIf S us (H (record { value = a; rest = us }))) → BegunIf K ts (R ts >>= H)
begun_then j R H G S K ts steady sound join filled first next = begun_when j R H G S K ts steady sound join filled first (λ a e. next a.value a.rest)

and_same : {A B : Type 0} (o : ReadResult A) (H : A → List Symbol → ReadResult B) → (o >>= (λ a. H a.value a.rest)) ≡ and_then o H
and_same (Ok a) H = refl
and_same (Err f) H = refl

pub begun_and : {A B : Type 0} (j : ℕ) (R : List Symbol → ReadResult A) (H : A → List Symbol → ReadResult B) (G S K : Relation) (ts : List Symbol) → Steady j R ts → ((us : List Symbol) → IfOk (R us) (λ a. G us a.rest)) →
    ((n m r : List Symbol) → G n m → S m r → K n r) → Filled S → BegunIf G ts (R ts) → ((a : A) (us : List Symbol) → BegunIf S us (H a us)) → BegunIf K ts (and_then (R ts) H)
begun_and j R H G S K ts steady sound join filled first next =
    subst (λ o. BegunIf K ts o) (and_same (R ts) H) (begun_then j R (λ a. H a.value a.rest) G S K ts steady sound join filled first (λ a us. next a us))

-- ---- words and marks

-- that word or mark, at any place
abbrev pub a_mark : Fixed → Symbol
a_mark f = record { span = beginning; sign = signs.Fixed f }

marked : (f : Fixed) (us : List Symbol) (o : Option (Read Span)) (end : Span) → IfSome o (words.Stands f us) → IfOk (must_be end us o) (λ a. Mark f us a.rest)
marked f us None end h = tt
marked f us (Some a) end h = subst (λ x. Mark f x a.rest) (sym h.all) (mark h.symbol h.is)

pub mark_sound : (end : Span) (f : Fixed) (us : List Symbol) → IfOk (behind end f us) (λ a. Mark f us a.rest)
unfolding behind
mark_sound end f us = marked f us (seen f us) end (seen-sound f us)

no_limit : (K : Relation) (end : Span) (us : List Symbol) (o : Option (Read Span)) → BegunIf K us (must_be end us o)
no_limit K end [] None = tt
no_limit K end (t ∷ us) None = tt
no_limit K end us (Some a) = tt

-- a word or mark is no limit
pub begun_mark : (K : Relation) (end : Span) (f : Fixed) (us : List Symbol) → BegunIf K us (behind end f us)
unfolding behind
begun_mark K end f us = no_limit K end us (seen f us)

-- a word or mark that must stand there, and what follows it
pub begun_marked : {B : Type 0} (end : Span) (f : Fixed) (H : Read Span → ReadResult B) (S K : Relation) (ts : List Symbol) → ((n m r : List Symbol) → Mark f n m → S m r → K n r) → Filled S →
    ((a : Span) (us : List Symbol) → BegunIf S us (H (record { value = a; rest = us }))) → BegunIf K ts (behind end f ts >>= H)
begun_marked end f H S K ts join filled next = begun_then 1 (behind end f) H (Mark f) S K ts (steady_behind end f ts) (mark_sound end f) join filled (begun_mark (Mark f) end f ts) next

-- nothing but the mark
ends_so : {X : Type 0} (K : Relation) (x : X) (end : Span) (us : List Symbol) (o : Option (Read Span)) → BegunIf K us (must_be end us o >>= (λ a. read x a.rest))
ends_so K x end [] None = tt
ends_so K x end (t ∷ us) None = tt
ends_so K x end us (Some a) = tt

pub begun_end : {X : Type 0} (K : Relation) (x : X) (end : Span) (f : Fixed) (us : List Symbol) → BegunIf K us (behind end f us >>= (λ a. read x a.rest))
unfolding behind
begun_end K x end f us = ends_so K x end us (seen f us)

pub filled_mark : (f : Fixed) → Filled (Mark f)
filled_mark f = record { symbols = λ r. a_mark f ∷ r; fills = λ r. mark (a_mark f) refl }

-- the value is changed alone
pub begun_read : {A B : Type 0} (K : Relation) (ts : List Symbol) (o : ReadResult A) (g : Read A → B) → BegunIf K ts o → BegunIf K ts (o >>= (λ a. read (g a) a.rest))
begun_read K ts (Ok a) g h = tt
begun_read K ts (Err e) g h = h

-- behind a word or mark that is seen
pub behind_word : {A : Type 0} (w : Fixed) (G K : Relation) (us : List Symbol) (a : Read Span) → words.Stands w us a → (o : Result A Fault) → ((t : Symbol) (n r : List Symbol) → Is t w → G n r → K (t ∷ n) r) → BegunIf G a.rest o → BegunIf K us o
behind_word w G K us a s o join h = subst (λ x. BegunIf K x o) (sym s.all) (begun_behind G K s.symbol a.rest o (λ n r g. join s.symbol n r s.is g) h)

-- something and a word or mark behind it
abbrev pub EndedBy : Relation → Fixed → Relation
EndedBy G f n r = (m : List Symbol) × (G n m × Mark f m r)

pub begun_ended : {A B : Type 0} (j : ℕ) (R : List Symbol → ReadResult A) (g : Read A → B) (end : Span) (f : Fixed) (G : Relation) (ts : List Symbol) → Steady j R ts → ((us : List Symbol) → IfOk (R us) (λ a. G us a.rest)) →
    BegunIf G ts (R ts) → BegunIf (EndedBy G f) ts (R ts >>= (λ a. behind end f a.rest >>= (λ s. read (g a) s.rest)))
begun_ended j R g end f G ts steady sound begun =
    begun_then j R (λ a. behind end f a.rest >>= (λ s. read (g a) s.rest)) G (Mark f) (EndedBy G f) ts steady sound (λ n m r x k. (m, (x, k))) (filled_mark f) begun
    (λ a us. begun_end (Mark f) (g (record { value = a; rest = us })) end f us)

-- ---- what opens

opened_limit : (f : Fixed) (p : ℕ) (us : List Symbol) (end : Span) (o : Option (Read Span)) → IfSome o (words.Stands f us) → BegunIf (Mark f) us (opened_by p (must_be end us o))
opened_limit f p [] end None s = tt
opened_limit f p (t ∷ us) end None s = tt
opened_limit f zero us end (Some a) s = record { before = []; symbol = s.symbol; after = a.rest; parts = s.all; place = ap (limit_fault limits.Nesting) s.here; more = λ r. r; begins = λ r. mark s.symbol s.is }
opened_limit f (suc p) us end (Some a) s = tt

pub begun_opened : (end : Span) (f : Fixed) (p : ℕ) (us : List Symbol) → BegunIf (Mark f) us (opened end f p us)
unfolding opened behind
begun_opened end f p us = opened_limit f p us end (seen f us) (seen-sound f us)

opened_mark : (end : Span) (f : Fixed) (p : ℕ) (us : List Symbol) → IfOk (opened end f p us) (λ a. Mark f us a.rest)
opened_mark end f p us = words.weaker (words.Opens f p us) (λ a. Mark f us a.rest) (opened end f p us) (words.opened-sound end f p us) (λ a h. subst (λ x. Mark f x a.rest) (sym h.all) (mark h.symbol h.is))

pub begun_inside_it : {B : Type 0} (end : Span) (f : Fixed) (p : ℕ) (H : Read ℕ → ReadResult B) (S K : Relation) (ts : List Symbol) → ((n m r : List Symbol) → Mark f n m → S m r → K n r) → Filled S →
    ((q : ℕ) (us : List Symbol) → p ≡ suc q → BegunIf S us (H (record { value = q; rest = us }))) → BegunIf K ts (opened end f p ts >>= H)
begun_inside_it end f p H S K ts join filled next =
    begun_when 1 (opened end f p) H (Mark f) S K ts (steady_opened end f p ts) (opened_mark end f p) join filled (begun_opened end f p ts)
    (λ a e. let P : ReadResult ℕ → Type 0 = λ o. IfOk o (words.Opens f p ts) in let h : words.Opens f p ts a = subst P e (words.opened-sound end f p ts) in next a.value a.rest h.room)

-- ---- lists with commas

module _ {X : Type 0} (f : ℕ → List Symbol → ReadResult (List X)) (end : Span) (I L : Relation) (items : (n : ℕ) (us : List Symbol) → Steady 1 (f n) us)
    (sound : (n : ℕ) (us : List Symbol) → IfOk (f n us) (λ a. I us a.rest)) (begun : (n : ℕ) (us : List Symbol) → BegunIf I us (f n us))
    (last : (n r : List Symbol) → I n r → L n r) (next : (n m k r : List Symbol) → I n m → Mark fixed.Comma m k → L k r → L n r) where
  -- a comma and more
  abbrev Behind : Relation
  Behind n r = (m : List Symbol) × (Mark fixed.Comma n m × L m r)

  comma_behind : (us : List Symbol) (comma : Read Span) → words.Stands fixed.Comma us comma → (o : ReadResult (List X)) → BegunIf L comma.rest o → BegunIf Behind us o
  comma_behind us comma s o h =
      subst (λ x. BegunIf Behind x o) (sym s.all) (begun_behind L Behind s.symbol comma.rest o (λ n r l. (n, (mark s.symbol s.is, l))) h)

  more_begun : (xs : List X) (more : List Symbol → ReadResult (List X)) (us : List Symbol) (o : Option (Read Span)) → IfSome o (words.Stands fixed.Comma us) → ((vs : List Symbol) → BegunIf L vs (more vs)) →
      BegunIf Behind us (more_by more xs us o)
  more_begun xs more us None s h = tt
  more_begun xs more us (Some comma) s h = begun_front Behind us xs (more comma.rest) (comma_behind us comma s (more comma.rest) (h comma.rest))

  pub separated_begun : (k n : ℕ) (ts : List Symbol) → BegunIf L ts (separated f end n k ts)
  unfolding separated
  separated_begun zero n [] = tt
  separated_begun zero n (t ∷ ts) = tt
  separated_begun (suc k) n ts = by (f n ts) (items n ts) (begun n ts) (λ m vs. separated_begun k m vs)
    where
      behind_it : (a : Read (List X)) → Goes (List X) 1 (f n) ts a → (o : ReadResult (List X)) → BegunIf Behind a.rest o → BegunIf L ts o
      behind_it a g (Ok b) h = tt
      behind_it a g (Err e) h =
          begun_as Behind L g.front ts a.rest e (λ r. r) g.parts
          (λ m r same w. next (g.front ++ m) m w.0 r (again_sound (f n) I (g.front ++ m) (record { value = a.value; rest = m }) (g.again m same) (sound n (g.front ++ m))) w.1.0 w.1.1) h

      by : (o : ReadResult (List X)) → SteadyBy 1 (f n) ts o → BegunIf I ts o → ((m : ℕ) (vs : List Symbol) → BegunIf L vs (separated f end m k vs)) →
          BegunIf L ts (o >>= (λ xs. more_by (separated f end (n - length xs.value) k) xs.value xs.rest (seen fixed.Comma xs.rest)))
      by (Ok a) g h again =
          behind_it a g (more_by (separated f end (n - length a.value) k) a.value a.rest (seen fixed.Comma a.rest))
          (more_begun a.value (separated f end (n - length a.value) k) a.rest (seen fixed.Comma a.rest) (seen-sound fixed.Comma a.rest) (λ vs. again (n - length a.value) vs))
      by (Err e) w h again = begun_as I L [] ts ts e (λ r. r) refl (λ m r same i. last m r i) h

-- ---- items one behind the other

module _ {X : Type 0} (f : ℕ → List Symbol → Possible (List X)) (used : List X → ℕ) (I L : Relation) (items : (n : ℕ) (us : List Symbol) → Maybe (f n) us)
    (sound : (n : ℕ) (us : List Symbol) → IfThere (f n us) (λ a. I us a.rest)) (begun : (n : ℕ) (us : List Symbol) → BegunIf I us (f n us))
    (none : (r : List Symbol) → L r r) (next : (n m r : List Symbol) → I n m → L m r → L n r) where
  there_sound : (n : ℕ) (us : List Symbol) (a : Read (List X)) → f n us ≡ Ok (Some a) → IfThere (f n us) (λ x. I us x.rest) → I us a.rest
  there_sound n us a e h = subst (λ o. IfThere o (λ x. I us x.rest)) e h

  pub repeated_begun : (k n : ℕ) (ts : List Symbol) → BegunIf L ts (repeated f used n k ts)
  unfolding repeated
  repeated_begun zero n ts = tt
  repeated_begun (suc k) n ts = by (f n ts) (items n ts) (begun n ts) (λ m vs. repeated_begun k m vs)
    where
      behind_it : (a : Read (List X)) → settled.Stands (List X) (f n) ts a → (o : ReadResult (List X)) → BegunIf L a.rest o → BegunIf L ts (with_front a.value o)
      behind_it a g (Ok b) h = tt
      behind_it a g (Err e) h =
          begun_as L L g.front ts a.rest e (λ r. r) g.parts
          (λ m r same l. next (g.front ++ m) m r (there_sound n (g.front ++ m) (record { value = a.value; rest = m }) (g.again m same) (sound n (g.front ++ m))) l) h

      by : (o : Possible (List X)) → MaybeBy (f n) ts o → BegunIf I ts o → ((m : ℕ) (vs : List Symbol) → BegunIf L vs (repeated f used m k vs)) →
          BegunIf L ts (repeated_by (λ xs vs. repeated f used (n - used xs) k vs) ts o)
      by (Ok None) g h again = tt
      by (Ok (Some a)) g h again = behind_it a g (repeated f used (n - used a.value) k a.rest) (again (n - used a.value) a.rest)
      by (Err e) w h again = begun_as I L [] ts ts e (λ r. r) refl (λ m r same i. next m r r i (none r)) h
