-- What is known of an accepted word up to a letter: how far it is read, where the automaton is, and the scopes of its open calls.
use Rattle.std.proofs.Common.{◌≡◌, ◌∙◌, ◌⊎◌, inl, inr, ℕ, zero, suc, ◌+◌, ◌<◌, ◌≤◌, Bool, true, false, List, [], ◌∷◌, length, refl, sym, ap, subst, arith, Option, None, Some}
use Rattle.std.specs.Prelude.{◌*◌, slice_get, unwrap_or, if◌then◌else◌}
use Rattle.std.specs.List.{AllByRecursion}
use Rattle.boogie_tree.specs.declared.tree.Column.{Column}
use Rattle.boogie_tree.specs.declared.tree.Column.TheVariants.{Global, Old, Local}
use Rattle.nwa_base.specs.declared.letters.Kind.{Kind}
use Rattle.nwa_base.specs.declared.letters.Kind.TheVariants as kinds
use Rattle.nwa_base.specs.declared.letters.Letter.{Letter}
use Rattle.nwa_base.specs.Automata.{IsAutomaton}
use Rattle.nwa_base.specs.Acceptance.{Accepts, AcceptsFrom, Follows}
use Rattle.letter_acts.specs.Frames.{Columns, is_old_column}
use Rattle.letter_acts.specs.Acts.{PlainAct, Alphabet, frame_of, act_of}
use Rattle.letter_acts.specs.Invariant.{Graph, IsGraph, alphabet_of, IsPlaceOf, MayTarget}
use Rattle.path_rows.specs.Versions.{Part, part_rows, part_of}
use Rattle.letter_acts.specs.FrameRows.Rows.{columns_from}
use Rattle.path_rows.specs.Paths.{start_frame, first_stage}
use Rattle.path_rows.specs.Drafts.{CanGoOn}
use Rattle.path_rows.proofs.DifferLemmas.{columns_distinct}
use Rattle.path_rows.proofs.EdgeLemmas.{inside_acts, call_acts, back_acts}
use Rattle.path_rows.proofs.GoingLemmas.{goes_next}
use Rattle.nested_itp.specs.NestedPredicates.Positions.{CallScope, returned_by, has_return, if_constant_version, known_at, known_columns, callee_scope, left_scopes, callee_of, scopes_after, innermost, start_scope}
use Rattle.nested_itp.specs.NestedRefutations.Numbers.{bounds_in, Reading, read_on}
use Rattle.nested_itp.proofs.NestedRefutations.NamesLaws.{names_weaker}
use Rattle.nested_itp.proofs.NestedRefutations.LiveLaws.{Known, WordNames, letter_named}
use Rattle.nested_itp.proofs.NestedRefutations.ReadLaws.{ReadTo, read_none, read_next}
use Rattle.nested_itp.proofs.NestedRefutations.VersionLaws.{columns_count}
use Rattle.nested_itp.proofs.NestedRefutations.ColumnLaws.{known_in}
use Rattle.nested_itp.proofs.NestedRefutations.GoneLaws.{member_below}
use Rattle.nested_itp.proofs.NestedRefutations.WordLaws.{HaveGlobals, word_names}

-- before the first letter
abbrev pub first_reading : Graph → Reading
first_reading g = record {
  letters = 0;
  rows = bounds_in (start_frame g);
  stage = first_stage (start_frame g);
  scopes = start_scope g ∷ [];
  calls = [];
}

-- ---- scopes

-- the caller's sum speaks of no column that may be a target: of constants and old columns alone
abbrev pub KnowsWell : Columns → List (Option ℕ) → Type 0
KnowsWell frame known = (j : ℕ) → MayTarget frame j → known_in known j ≡ None

unknown_at : (c : Column) (constant : Bool) (v : ℕ) (before : List ℕ) → constant ≡ false → is_old_column c ≡ false → known_at c constant v before ≡ None
unknown_at (Global g) constant v before e f = ap (λ (z : Bool). if_constant_version z v) e
unknown_at (Old g) constant v before e f = absurd (cc)
unknown_at (Local l) constant v before e f = ap (λ (z : Bool). if_constant_version z v) e

pub entered_knows : (frame : Columns) (entry before : List ℕ) → KnowsWell frame (known_columns frame entry before)
entered_knows [] entry before j h = refl
entered_knows (c ∷ frame) [] before j h = refl
entered_knows (c ∷ frame) (v ∷ entry) before zero h = unknown_at c.0 c.1.constant v before h.0 h.1
entered_knows (c ∷ frame) (v ∷ entry) before (suc j) h = entered_knows frame entry before j h

-- the scopes of the open calls, with the places before these calls
abbrev pub ScopesFit : Graph → List ℕ → ℕ → List CallScope → Type 0
ScopesFit g places q [] = ⊥
ScopesFit g [] q (s ∷ scopes) = IsPlaceOf g.place_procs s.proc q × KnowsWell (frame_of (alphabet_of g) s.proc) s.known × (scopes ≡ [])
ScopesFit g (p ∷ places) q (s ∷ scopes) = IsPlaceOf g.place_procs s.proc q × KnowsWell (frame_of (alphabet_of g) s.proc) s.known × ScopesFit g places p scopes

pub same_proc : (procs : List ℕ) (q a b : ℕ) → IsPlaceOf procs a q → IsPlaceOf procs b q → a ≡ b
same_proc procs q a b x y = let e : Some a ≡ Some b = sym x ∙ y in cc

-- from one place to another of the same procedure
scopes_moved : (g : Graph) (places : List ℕ) (q e proc : ℕ) (scopes : List CallScope) → IsPlaceOf g.place_procs proc q → IsPlaceOf g.place_procs proc e → ScopesFit g places q scopes → ScopesFit g places e scopes
scopes_moved g places q e proc [] a b h = absurd h
scopes_moved g [] q e proc (s ∷ scopes) a b h = (subst (λ (r : ℕ). IsPlaceOf g.place_procs r e) (same_proc g.place_procs q proc s.proc a h.0) b, h.1, h.2)
scopes_moved g (p ∷ places) q e proc (s ∷ scopes) a b h = (subst (λ (r : ℕ). IsPlaceOf g.place_procs r e) (same_proc g.place_procs q proc s.proc a h.0) b, h.1, h.2)

-- ---- which of them are of calls that return

-- each of the scopes, of which k are further in, is none of a call that returns, unless the test says that it does
abbrev pub ReturnWhere : (ℕ → Bool) → ℕ → List CallScope → Type 0
ReturnWhere test k [] = Unit {0}
ReturnWhere test k (s ∷ scopes) = ((s.own ≡ 0) ⊎ (test k ≡ true)) × ReturnWhere test (suc k) scopes

further_in : (test : ℕ → Bool) (k : ℕ) (scopes : List CallScope) → ReturnWhere (λ n. test (suc n)) k scopes → ReturnWhere test (suc k) scopes
further_in test k [] h = tt
further_in test k (s ∷ scopes) h = (h.0, further_in test (suc k) scopes h.1)

further_out : (test : ℕ → Bool) (k : ℕ) (scopes : List CallScope) → ReturnWhere (λ n. returned_by kinds.Back n test) (suc k) scopes → ReturnWhere test k scopes
further_out test k [] h = tt
further_out test k (s ∷ scopes) h = (h.0, further_out test (suc k) scopes h.1)

own_of_call : (b : Bool) (n : ℕ) → ((if b then n else 0) ≡ 0) ⊎ (b ≡ true)
own_of_call true n = inr refl
own_of_call false n = inl refl

returns_after : (kind : Kind) (al : Alphabet) (n : ℕ) (act : Option PlainAct) (rest : List Letter) (entry before : List ℕ) (scopes : List CallScope) →
    ReturnWhere (λ k. returned_by kind k (λ m. has_return m rest)) 0 scopes → ReturnWhere (λ k. has_return k rest) 0 (scopes_after al n kind act rest entry before scopes)
returns_after kinds.Inside al n act rest entry before scopes h = h
returns_after kinds.Call al n act rest entry before scopes h = (own_of_call (has_return 0 rest) (2 * n), further_in (λ k. has_return k rest) 0 scopes h)
returns_after kinds.Back al n act rest entry before [] h = tt
returns_after kinds.Back al n act rest entry before (s ∷ scopes) h = further_out (λ k. has_return k rest) 0 scopes h.1

-- where a call returns, so do those that are further in
return_further : (w : List Letter) (n : ℕ) → has_return (suc n) w ≡ true → has_return n w ≡ true
return_further [] n h = absurd (cc)
return_further (a ∷ w) n h = by_kind a.kind n h (return_further w)
  where
    by_kind : (kind : Kind) (n : ℕ) → returned_by kind (suc n) (λ m. has_return m w) ≡ true → ((m : ℕ) → has_return (suc m) w ≡ true → has_return m w ≡ true) → returned_by kind n (λ m. has_return m w) ≡ true
    by_kind kinds.Inside n h f = f n h
    by_kind kinds.Call n h f = f (suc n) h
    by_kind kinds.Back zero h f = refl
    by_kind kinds.Back (suc n) h f = f n h

-- before a call that does not return no call is open that does
pub no_own : (rest : List Letter) (scopes : List CallScope) → ReturnWhere (λ k. returned_by kinds.Call k (λ m. has_return m rest)) 0 scopes → has_return 0 rest ≡ false → (innermost scopes).own ≡ 0
no_own rest [] h e = refl
no_own rest (s ∷ scopes) h e = by_head h.0
  where
    by_head : (s.own ≡ 0) ⊎ (has_return 1 rest ≡ true) → s.own ≡ 0
    by_head (inl q) = q
    by_head (inr q) = let k : has_return 0 rest ≡ true = return_further rest 0 q in absurd (cc)

-- ---- where the automaton is

pub record Placed (g : Graph) (r : Reading) (rest : List Letter) : Type 0 where
  pub places : List ℕ
  pub from : ℕ
  pub accepts : AcceptsFrom g.automaton places from rest
  pub scopes : ScopesFit g places from r.scopes
  pub owns : AllByRecursion (λ s. s.own ≤ 2 * r.letters) r.scopes
  pub returns : ReturnWhere (λ k. has_return k rest) 0 r.scopes
  pub begun : (r ≡ first_reading g) ⊎ ((0 < r.letters) × (from ≡ 0 → ⊥))

owns_later : (n : ℕ) (scopes : List CallScope) → AllByRecursion (λ s. s.own ≤ 2 * n) scopes → AllByRecursion (λ s. s.own ≤ 2 * suc n) scopes
owns_later n [] h = tt
owns_later n (s ∷ scopes) h = let l = h.0 in (omega (arith, l), owns_later n scopes h.1)

owns_left : (P : CallScope → Type 0) (scopes : List CallScope) → AllByRecursion P scopes → AllByRecursion P (left_scopes scopes)
owns_left P [] h = tt
owns_left P (s ∷ scopes) h = h.1

own_within : (n : ℕ) (returns : Bool) → (if returns then 2 * suc n else 0) ≤ 2 * suc n
own_within n true = omega arith
own_within n false = omega arith

pub placed_next : (g : Graph) → IsGraph g → (r : Reading) (a : Letter) (rest : List Letter) → Placed g r (a ∷ rest) → Placed g (read_on (alphabet_of g) a rest r) rest
placed_next g ok r a rest h = by_kind a.kind refl h.places h.scopes h.accepts.1
  where
    al : Alphabet
    al = alphabet_of g

    entry : List ℕ
    entry = (part_of al a r.stage).after.here

    by_kind : (kind : Kind) → a.kind ≡ kind → (places : List ℕ) → ScopesFit g places h.from r.scopes →
        Follows g.automaton kind a places h.from h.accepts.0 (λ st. AcceptsFrom g.automaton st h.accepts.0 rest) → Placed g (read_on al a rest r) rest
    by_kind kinds.Inside k places s f =
        let x = inside_acts g ok h.from h.accepts.0 a f.0 in
        record {
          places = places;
          from = h.accepts.0;
          accepts = f.1;
          scopes = subst (λ (d : Kind). ScopesFit g places h.accepts.0 (scopes_after al (suc r.letters) d (act_of al a) rest entry r.stage.here r.scopes)) (sym k)
              (scopes_moved g places h.from h.accepts.0 x.known.proc r.scopes x.known.starts x.known.ends s);
          owns = subst (λ (d : Kind). AllByRecursion (λ s. s.own ≤ 2 * suc r.letters) (scopes_after al (suc r.letters) d (act_of al a) rest entry r.stage.here r.scopes)) (sym k)
              (owns_later r.letters r.scopes h.owns);
          returns = returns_after a.kind al (suc r.letters) (act_of al a) rest entry r.stage.here r.scopes h.returns;
          begun = inr (omega arith, x.to);
        }
    by_kind kinds.Call k places s f =
        let x = call_acts g ok h.from h.accepts.0 a f.0 in
        let callee : ℕ = x.known.callee in
        record {
          places = h.from ∷ places;
          from = h.accepts.0;
          accepts = f.1;
          scopes = subst (λ (d : Kind). ScopesFit g (h.from ∷ places) h.accepts.0 (scopes_after al (suc r.letters) d (act_of al a) rest entry r.stage.here r.scopes)) (sym k)
              (subst (λ (o : Option PlainAct). ScopesFit g (h.from ∷ places) h.accepts.0 (callee_scope al (suc r.letters) (callee_of o) (has_return 0 rest) entry r.stage.here ∷ r.scopes)) (sym x.act_is)
              (x.ends, entered_knows (frame_of al callee) entry r.stage.here, s));
          owns = subst (λ (d : Kind). AllByRecursion (λ s. s.own ≤ 2 * suc r.letters) (scopes_after al (suc r.letters) d (act_of al a) rest entry r.stage.here r.scopes)) (sym k)
              (own_within r.letters (has_return 0 rest), owns_later r.letters r.scopes h.owns);
          returns = returns_after a.kind al (suc r.letters) (act_of al a) rest entry r.stage.here r.scopes h.returns;
          begun = inr (omega arith, x.to);
        }
    by_kind kinds.Back k [] s f = absurd f
    by_kind kinds.Back k (p ∷ places) s f =
        let x = back_acts g ok h.from p h.accepts.0 a k f.0 in
        record {
          places = places;
          from = h.accepts.0;
          accepts = f.1;
          scopes = subst (λ (d : Kind). ScopesFit g places h.accepts.0 (scopes_after al (suc r.letters) d (act_of al a) rest entry r.stage.here r.scopes)) (sym k)
              (scopes_moved g places p h.accepts.0 x.known.caller (left_scopes r.scopes) x.known.before x.known.ends (without_first p places r.scopes s));
          owns = subst (λ (d : Kind). AllByRecursion (λ s. s.own ≤ 2 * suc r.letters) (scopes_after al (suc r.letters) d (act_of al a) rest entry r.stage.here r.scopes)) (sym k)
              (owns_left (λ s. s.own ≤ 2 * suc r.letters) r.scopes (owns_later r.letters r.scopes h.owns));
          returns = returns_after a.kind al (suc r.letters) (act_of al a) rest entry r.stage.here r.scopes h.returns;
          begun = inr (omega arith, x.to);
        }
      where
        without_first : (p : ℕ) (places : List ℕ) (scopes : List CallScope) → ScopesFit g (p ∷ places) h.from scopes → ScopesFit g places p (left_scopes scopes)
        without_first p places [] s = absurd s
        without_first p places (c ∷ scopes) s = s.2

-- ---- all that is known

pub record Along (g : Graph) (globals : ℕ) (w : List Letter) (r : Reading) (rest : List Letter) : Type 0 where
  pub read : ReadTo g w r rest
  pub goes : CanGoOn g r.stage rest
  pub placed : Placed g r rest
  pub names : WordNames (alphabet_of g) globals r.stage rest

pub along_next : (g : Graph) → IsGraph g → (globals : ℕ) (w : List Letter) (r : Reading) (a : Letter) (rest : List Letter) → Along g globals w r (a ∷ rest) →
    Along g globals w (read_on (alphabet_of g) a rest r) rest
along_next g ok globals w r a rest h =
    let al : Alphabet = alphabet_of g in
    let part : Part = part_of al a r.stage in
    let grows : r.stage.made ≤ part.after.made = h.names.0.1 in
    record {
      read = read_next g w r a rest h.read
          (names_weaker (Known r.stage part.after.made) (λ x. x < part.after.made) (λ x k. known x grows k) (part_rows part) (letter_named al (act_of al a) r.stage h.names.0.0)) grows;
      goes = goes_next g ok r.stage a rest h.goes;
      placed = placed_next g ok r a rest h.placed;
      names = h.names.1;
    }
  where
    known : (x : ℕ) → r.stage.made ≤ (part_of (alphabet_of g) a r.stage).after.made → Known r.stage (part_of (alphabet_of g) a r.stage).after.made x → x < (part_of (alphabet_of g) a r.stage).after.made
    known x l (inl k) = k.1
    known x l (inr m) = let b = member_below r.stage.made r.stage.here x h.goes.comes.here.versions.below m in omega (arith, b, l)

-- ---- the start

some_of : (xs : List ℕ) (i : ℕ) → i < length xs → slice_get xs i ≡ Some (unwrap_or (slice_get xs i) 0)
some_of [] i l = absurd (omega (arith, l))
some_of (x ∷ xs) zero l = refl
some_of (x ∷ xs) (suc i) l = some_of xs i (omega (arith, l))

all_at : (P : ℕ → Type 0) (xs : List ℕ) (i x : ℕ) → slice_get xs i ≡ Some x → AllByRecursion P xs → P x
all_at P [] i x e h = absurd (cc)
all_at P (y ∷ xs) zero x e h = let k : y ≡ x = cc in subst P k h.0
all_at P (y ∷ xs) (suc i) x e h = all_at P xs i x e h.1

columns_below : (n k m : ℕ) → n + k ≤ m → AllByRecursion (λ c. c < m) (columns_from n k)
columns_below n zero m l = tt
columns_below n (suc k) m l = (omega (arith, l), columns_below (suc n) k m (omega (arith, l)))

pub along_start : (g : Graph) → IsGraph g → IsAutomaton g.automaton → (globals : ℕ) → HaveGlobals g globals → (w : List Letter) → Accepts g.automaton w → Along g globals w (first_reading g) w
along_start g ok m globals have w acc =
    let proc : ℕ = unwrap_or (slice_get g.place_procs g.automaton.start) 0 in
    let count = ok.procedures.place_procs in
    let start = m.start in
    let place : IsPlaceOf g.place_procs proc g.automaton.start = some_of g.place_procs g.automaton.start (omega (arith, count, start)) in
    let n : ℕ = length (start_frame g) in
    let goes : CanGoOn g (first_stage (start_frame g)) w = record {
      places = [];
      from = g.automaton.start;
      comes = record {
        here = record {
          proc = proc;
          place = place;
          exists = all_at (λ p. p < length g.frames) g.place_procs g.automaton.start proc place ok.procedures.procs_exist;
          versions = record { long = columns_count 0 n; below = columns_below 0 n n (omega arith); differ = columns_distinct 0 n };
        };
        saved = tt;
      };
      accepts = acc;
    } in
    record {
      read = read_none g w;
      goes = goes;
      placed = record { places = []; from = g.automaton.start; accepts = acc; scopes = (place, (λ j h. refl), refl); owns = (omega arith, tt); returns = (inl refl, tt); begun = inl refl };
      names = word_names g ok globals have (first_stage (start_frame g)) w goes;
    }
