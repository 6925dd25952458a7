-- What is told of the letters of a word, one after another.
use Rattle.std.proofs.Common.{◌≡◌, ◌≢◌, ◌∙◌, ℕ, zero, suc, ◌+◌, ◌-◌, ◌<◌, ◌≤◌, Bool, true, false, nat_eq, List, [], ◌∷◌, ◌++◌, length, drop, get_or, codes, if◌then◌else◌, Option, None, Some, IsSome, MatchOption, refl, sym, ap, subst, arith, append_assoc, append-nil, length-append, ◌↔◌}
use Rattle.std.specs.Prelude.{slice_get}
use Rattle.std.specs.List.{concat}
use Rattle.std.specs.Option.{option_map, option_and_then, option_to_list}
use Rattle.std.proofs.lemmas.Bool.{eqb-true, false≢true}
use Rattle.std.proofs.lemmas.Bool.Decides.{nat_tests}
use Rattle.std.proofs.lemmas.List.{drop_more}
use Rattle.std.proofs.lemmas.Option.{slice_get-map}
use Rattle.boogie_tree.specs.Tree.{Declaration}
use Rattle.boogie_tree.specs.declared.span.Span.{Span}
use Rattle.typed_tree.specs.TypedTree.{TypedProgram}
use Rattle.boogie_run.specs.BoogiePlaces.Places.{Place, program_places}
use Rattle.nwa_base.specs.declared.letters.Kind.{Kind}
use Rattle.nwa_base.specs.declared.letters.Kind.TheVariants.{Inside, Call, Back}
use Rattle.nwa_base.specs.declared.letters.Letter.{Letter}
use Rattle.nwa_base.specs.Automata.{Automaton}
use Rattle.nwa_base.specs.Words.{match_back, HasMatches}
use Rattle.nwa_base.specs.Runs.{StepsTo, StepsOn, IsAcceptingRun}
use Rattle.letter_acts.specs.Acts.{PlainAct, letter_of}
use Rattle.letter_acts.specs.Invariant.{Graph}
use Rattle.explain_top.specs.declared.run_story.keeping.Lines.{Lines}
use Rattle.explain_top.specs.RunStory.Items.{Item}
use Rattle.explain_top.specs.RunStory.Lines.{Keeps}
use Rattle.explain_top.specs.RunStory.Sites.{site_at}
use Rattle.explain_top.specs.RunStory.Texts.{told_line, shortened}
use Rattle.explain_top.specs.TraceStory.Ties.PlaceSites.{PlaceSite, site_of, place_sites}
use Rattle.explain_top.proofs.TraceStory.SiteSteps.{drop_here, drop_past}
use Rattle.explain_top.specs.TraceStory.TraceText.{PlainTrace}
use Rattle.explain_top.specs.TraceStory.TraceStory.{letters_of, open_behind, place_item, item_of, line_of, fails, letter_lines, advice, IsTraceStory}
use Rattle.explain_top.proofs.TraceStory.TraceLaws.{match_none}

-- ---- letters

pub none_before : (o : Option (List Letter)) → option_map (λ w. [] ++ w) o ≡ o
none_before None = refl
none_before (Some w) = refl

one_before : (done : List Letter) (a : Letter) (o : Option (List Letter)) → option_map (λ w. (done ++ a ∷ []) ++ w) o ≡ option_map (λ w. done ++ w) (option_map (λ w. a ∷ w) o)
one_before done a None = refl
one_before done a (Some w) = ap Some (append_assoc done (a ∷ []) w)

next_letter : (g : Graph) (n : ℕ) (ns : List ℕ) (a : Letter) → Some a ≡ option_map (λ act. letter_of n act) (slice_get g.acts n) → letters_of g (n ∷ ns) ≡ option_map (λ w. a ∷ w) (letters_of g ns)
next_letter g n ns a e = by_act (slice_get g.acts n) e
  where
    by_act : (o : Option PlainAct) → Some a ≡ option_map (λ act. letter_of n act) o → option_and_then (λ act. option_map (λ w. letter_of n act ∷ w) (letters_of g ns)) o ≡ option_map (λ w. a ∷ w) (letters_of g ns)
    by_act None e = absurd (let n : ⊥ = cc in n)
    by_act (Some act) e = let same : a ≡ letter_of n act = cc in ap (λ (b : Letter). option_map (λ w. b ∷ w) (letters_of g ns)) (sym same)

no_letter : (g : Graph) (n : ℕ) (ns : List ℕ) → None ≡ option_map (λ act. letter_of n act) (slice_get g.acts n) → letters_of g (n ∷ ns) ≡ None
no_letter g n ns e = by_act (slice_get g.acts n) e
  where
    by_act : (o : Option PlainAct) → None ≡ option_map (λ act. letter_of n act) o → option_and_then (λ act. option_map (λ w. letter_of n act ∷ w) (letters_of g ns)) o ≡ None
    by_act None e = refl
    by_act (Some act) e = absurd (let n : ⊥ = cc in n)

-- the next of the letters is there
pub letter_read : (g : Graph) (ns : List ℕ) (i d : ℕ) (done : List Letter) (a : Letter) (whole : Option (List Letter)) → i < length ns →
    Some a ≡ option_map (λ act. letter_of (get_or ns i d) act) (slice_get g.acts (get_or ns i d)) → option_map (λ w. done ++ w) (letters_of g (drop i ns)) ≡ whole →
    option_map (λ w. (done ++ a ∷ []) ++ w) (letters_of g (drop (i + 1) ns)) ≡ whole
letter_read g ns i d done a whole l e h =
    one_before done a (letters_of g (drop (i + 1) ns))
    ∙ ap (option_map (λ w. done ++ w)) (sym (next_letter g (get_or ns i d) (drop (i + 1) ns) a e))
    ∙ ap (λ (ms : List ℕ). option_map (λ w. done ++ w) (letters_of g ms)) (sym (drop_more ns i d l)) ∙ h

-- or it is not
pub letter_missing : (g : Graph) (ns : List ℕ) (i d : ℕ) (done : List Letter) (whole : Option (List Letter)) → i < length ns →
    None ≡ option_map (λ act. letter_of (get_or ns i d) act) (slice_get g.acts (get_or ns i d)) → option_map (λ w. done ++ w) (letters_of g (drop i ns)) ≡ whole → None ≡ whole
letter_missing g ns i d done whole l e h =
    sym (ap (λ (ms : List ℕ). option_map (λ w. done ++ w) (letters_of g ms)) (drop_more ns i d l) ∙ ap (option_map (λ w. done ++ w)) (no_letter g (get_or ns i d) (drop (i + 1) ns) e)) ∙ h

pub letters_read : (g : Graph) (ns : List ℕ) (i : ℕ) (done : List Letter) (whole : Option (List Letter)) → length ns ≤ i → option_map (λ w. done ++ w) (letters_of g (drop i ns)) ≡ whole → Some done ≡ whole
letters_read g ns i done whole l h =
    ap Some (sym (append-nil done)) ∙ ap (λ (ms : List ℕ). option_map (λ w. done ++ w) (letters_of g ms)) (sym (drop_past ns i l)) ∙ h

-- ---- runs

pub runs_match : (m : Automaton) (run : List ℕ) (front w : List Letter) (qs : List ℕ) → StepsOn m run front w qs → HasMatches front w
runs_match m run front [] qs s = tt
runs_match m run front (a ∷ w) [] s = absurd s
runs_match m run front (a ∷ w) (q ∷ []) s = absurd s
runs_match m run front (a ∷ w) (q ∷ e ∷ more) s = (λ k. matched (subst (λ (kind : Kind). StepsTo m run kind front q a e) k s.0), runs_match m run (a ∷ front) w (e ∷ more) s.1)
  where
    matched : StepsTo m run Back front q a e → IsSome (match_back front 0)
    matched r = subst IsSome (sym r.1) refl

-- a run has a state before each letter
pub runs_are_long : (m : Automaton) (run : List ℕ) (front w : List Letter) (qs : List ℕ) → StepsOn m run front w qs → length w ≤ length qs
runs_are_long m run front [] qs s = omega arith
runs_are_long m run front (a ∷ w) [] s = absurd s
runs_are_long m run front (a ∷ w) (q ∷ []) s = absurd s
runs_are_long m run front (a ∷ w) (q ∷ e ∷ more) s = omega (arith, runs_are_long m run (a ∷ front) w (e ∷ more) s.1)

-- letters that no word has lead to no failure
pub none_matched : {X : Type 0} (m : Automaton) (w : List Letter) (o : Option X) → o ≡ None → (IsSome o ↔ HasMatches [] w) → ((places : List ℕ) × IsAcceptingRun m w places) → ⊥
none_matched m w None e h r = false≢true (h.1 (runs_match m r.0 [] w r.0 r.1.is_run.steps))
none_matched m w (Some x) e h r = absurd (let n : ⊥ = cc in n)

pub has_letters : {X Y : Type 0} (f : X → Y) (o : Option X) (x : X) (whole : Option Y) → o ≡ Some x → option_map f o ≡ whole → whole ≡ Some (f x)
has_letters f o x whole e h = sym h ∙ ap (option_map f) e

pub has_none : {X Y : Type 0} (f : X → Y) (o : Option X) (whole : Option Y) → o ≡ None → option_map f o ≡ whole → whole ≡ None
has_none f o whole e h = sym h ∙ ap (option_map f) e

-- ---- items

item_told : (t : TypedProgram) (ds : List Declaration) (o : Option Place) → option_map (λ x. site_at ds x.0 x.1) (option_map (site_of t) o) ≡ place_item t ds o
item_told t ds None = refl
item_told t ds (Some p) = refl

-- the item at a place, by its number in the table
pub item_is : (t : TypedProgram) (ds : List Declaration) (sites : List PlaceSite) (place : ℕ) (o : Option PlaceSite) → sites ≡ place_sites t → place ≢ 0 → o ≡ slice_get sites (place - 1) →
    item_of t ds place ≡ option_map (λ x. site_at ds x.0 x.1) o
item_is t ds sites zero o e some f = absurd (some refl)
item_is t ds sites (suc n) o e some f =
    let before : suc n - 1 ≡ n = omega arith in
    let here : o ≡ option_map (site_of t) (slice_get (program_places t) n) =
    f ∙ ap (λ (ss : List PlaceSite). slice_get ss (suc n - 1)) e ∙ ap (slice_get (place_sites t)) before ∙ slice_get-map (site_of t) (program_places t) n in
    sym (ap (option_map (λ x. site_at ds x.0 x.1)) here ∙ item_told t ds (slice_get (program_places t) n))

pub no_item : (t : TypedProgram) (ds : List Declaration) (sites : List PlaceSite) (place calls : ℕ) (notes : List (List ℕ)) → sites ≡ place_sites t → place ≢ 0 → None ≡ slice_get sites (place - 1) →
    [] ≡ line_of (item_of t ds place) calls notes
no_item t ds sites place calls notes e some f = ap (λ (o : Option Item). line_of o calls notes) (sym (item_is t ds sites place None e some f))

pub one_item : (t : TypedProgram) (ds : List Declaration) (sites : List PlaceSite) (place calls : ℕ) (notes told : List (List ℕ)) (proc : ℕ) (at : Option Span) (line : List ℕ) → sites ≡ place_sites t → place ≢ 0 →
    Some (proc, at) ≡ slice_get sites (place - 1) → told ≡ notes → line ≡ told_line (site_at ds proc at) calls told → line ∷ [] ≡ line_of (item_of t ds place) calls notes
one_item t ds sites place calls notes told proc at line e some f same is =
    ap (λ (l : List ℕ). l ∷ []) (is ∙ ap (told_line (site_at ds proc at) calls) same) ∙ ap (λ (o : Option Item). line_of o calls notes) (sym (item_is t ds sites place (Some (proc, at)) e some f))

pub no_place : (t : TypedProgram) (ds : List Declaration) (place calls : ℕ) (notes : List (List ℕ)) → place ≡ 0 → [] ≡ line_of (item_of t ds place) calls notes
no_place t ds place calls notes e = ap (λ (n : ℕ). line_of (item_of t ds n) calls notes) (sym e)

-- ---- lines

same_test : (m n : ℕ) → nat_eq m n ≡ nat_eq (suc m) (suc n)
same_test m n = by_tests (nat_eq m n) (nat_eq (suc m) (suc n)) refl refl
  where
    by_tests : (s t : Bool) → nat_eq m n ≡ s → nat_eq (suc m) (suc n) ≡ t → nat_eq m n ≡ nat_eq (suc m) (suc n)
    by_tests true true e f = e ∙ sym f
    by_tests false false e f = e ∙ sym f
    by_tests true false e f = absurd (grind (arith, nat_tests))
    by_tests false true e f = absurd (grind (arith, nat_tests))

unequal : (m n : ℕ) → m ≢ n → nat_eq m n ≡ false
unequal m n h = by_test (nat_eq m n) refl
  where
    by_test : (t : Bool) → nat_eq m n ≡ t → nat_eq m n ≡ false
    by_test true e = absurd (h (eqb-true m n e))
    by_test false e = e

-- behind which letter nothing stands
fails_is : (w : List Letter) (i : ℕ) → i < length w → fails (drop (i + 1) w) ≡ (if nat_eq (i + 1) (length w) then codes "fails" ∷ [] else [])
fails_is [] i l = absurd (omega arith)
fails_is (a ∷ []) zero l = refl
fails_is (a ∷ b ∷ w) zero l = ap (λ (t : Bool). if t then codes "fails" ∷ [] else []) (sym (unequal (0 + 1) (suc (suc (length w))) (λ e. omega (arith, e))))
fails_is (a ∷ w) (suc i) l =
    let s : suc i + 1 ≡ suc (i + 1) = omega arith in
    ap (λ (m : ℕ). fails (drop m (a ∷ w))) s ∙ fails_is w i (omega arith) ∙ ap (λ (t : Bool). if t then codes "fails" ∷ [] else []) (same_test (i + 1) (length w)) ∙ ap (λ (m : ℕ). if nat_eq m (suc (length w)) then codes "fails" ∷ [] else []) (sym s)

-- So many letters are told, and these lines are kept of them.
pub record HasTold (t : TypedProgram) (ds : List Declaration) (all : Bool) (places : List ℕ) (letters : List Letter) (i calls count : ℕ) (lines : Lines) : Type 0 where
  pub told : List (List ℕ)
  pub counted : length told ≡ count
  pub kept : Keeps told lines
  pub all_is : lines.all ≡ all
  pub others : told ++ letter_lines t ds (drop i places) (drop i letters) calls ≡ letter_lines t ds places letters 0

module _ (t : TypedProgram) (ds : List Declaration) (all : Bool) (places : List ℕ) (letters : List Letter) where
  pub none_told : (lines : Lines) → Keeps [] lines → lines.all ≡ all → HasTold t ds all places letters 0 0 0 lines
  none_told lines k a = record { told = []; counted = refl; kept = k; all_is = a; others = refl }

  pub one_told : (i calls count behind : ℕ) (old new : Lines) (q : ℕ) (a : Letter) (line : List (List ℕ)) → HasTold t ds all places letters i calls count old → i < length letters →
      slice_get places i ≡ Some q → slice_get letters i ≡ Some a → line ≡ line_of (item_of t ds q) calls (if nat_eq (i + 1) (length letters) then codes "fails" ∷ [] else []) →
      behind ≡ open_behind a.kind calls → ((ls : List (List ℕ)) → length ls ≡ count → Keeps ls old → Keeps (ls ++ line) new) → new.all ≡ old.all →
      (n : ℕ) → n ≡ count + length line → HasTold t ds all places letters (i + 1) behind n new
  one_told i calls count behind old new q a line h l p r is opens keeps same n e = record {
    told = h.told ++ line;
    counted = length-append h.told line ∙ ap (λ (m : ℕ). m + length line) h.counted ∙ sym e;
    kept = keeps h.told h.counted h.kept;
    all_is = same ∙ h.all_is;
    others =
        append_assoc h.told line (letter_lines t ds (drop (i + 1) places) (drop (i + 1) letters) behind)
        ∙ (λ j. h.told ++ (line_is j ++ letter_lines t ds (drop (i + 1) places) (drop (i + 1) letters) (opens j)))
        ∙ (λ j. h.told ++ letter_lines t ds (sym (drop_here places i q p) j) (sym (drop_here letters i a r) j) calls)
        ∙ h.others;
  }
    where
      line_is : line ≡ line_of (item_of t ds q) calls (fails (drop (i + 1) letters))
      line_is = is ∙ ap (line_of (item_of t ds q) calls) (sym (fails_is letters i l))

  -- all of them are told
  pub all_told : (i calls count : ℕ) (lines : Lines) (text : List ℕ) → HasTold t ds all places letters i calls count lines → length letters ≤ i →
      ((ls : List (List ℕ)) → length ls ≡ count → Keeps ls lines → text ≡ concat (shortened lines.all ls)) → text ≡ concat (shortened all (letter_lines t ds places letters 0))
  all_told i calls count lines text h l is = is h.told h.counted h.kept ∙ (λ j. concat (shortened (h.all_is j) (whole j)))
    where
      none_left : (qs : List ℕ) → letter_lines t ds qs [] calls ≡ []
      none_left [] = refl
      none_left (q ∷ qs) = refl

      whole : h.told ≡ letter_lines t ds places letters 0
      whole =
          sym (append-nil h.told) ∙ ap (λ (ls : List (List ℕ)). h.told ++ ls) (sym (none_left (drop i places))) ∙ ap (λ (w : List Letter). h.told ++ letter_lines t ds (drop i places) w calls) (sym (drop_past letters i l)) ∙ h.others

-- ---- how many

pub behind_most : (kind : Kind) (calls behind i : ℕ) → behind ≡ open_behind kind calls → calls ≤ i → behind ≤ i + 1
behind_most Inside calls behind i e l = omega (arith, e, l)
behind_most Call calls behind i e l = omega (arith, e, l)
behind_most Back zero behind i e l = omega (arith, e, l)
behind_most Back (suc calls) behind i e l = omega (arith, e, l)

pub lines_most : {X : Type 0} (f : X → List ℕ) (o : Option X) (count n i : ℕ) → n ≡ count + length (option_to_list (option_map f o)) → count ≤ i → n ≤ i + 1
lines_most f None count n i e l = omega (arith, e, l)
lines_most f (Some x) count n i e l = omega (arith, e, l)

-- ---- the story

other_run : (m n : Automaton) (w v : List Letter) (qs : List ℕ) → n ≡ m → v ≡ w → IsAcceptingRun n v qs → IsAcceptingRun m w qs
other_run m n w v qs e f r = subst (λ (x : Automaton). IsAcceptingRun x w qs) e (subst (λ (x : List Letter). IsAcceptingRun n x qs) f r)

pub no_run : {X : Type 0} (m n : Automaton) (w v : List Letter) (o : Option X) (P : X → Type 0) → n ≡ m → v ≡ w → o ≡ None → MatchOption o (((places : List ℕ) × IsAcceptingRun n v places) → ⊥) P →
    ((places : List ℕ) × IsAcceptingRun m w places) → ⊥
no_run m n w v o P e f none h r = match_none o (((places : List ℕ) × IsAcceptingRun n v places) → ⊥) P none h (r.0, other_run n m v w r.0 (sym e) (sym f) r.1)

pub run_is_long : (m : Automaton) (v w : List Letter) (qs rs : List ℕ) → w ≡ v → rs ≡ qs → IsAcceptingRun m v qs → length w ≤ length rs
run_is_long m v w qs rs e f r = omega (arith, runs_are_long m qs [] v qs r.is_run.steps, ap length e, ap length f)

pub story_told : (t : TypedProgram) (ds : List Declaration) (g : Graph) (all : Bool) (u : PlainTrace) (text told advised : List ℕ) (m : Automaton) (w v vs : List Letter) (qs rs : List ℕ) →
    letters_of g u.letters ≡ Some w → m ≡ g.automaton → v ≡ w → IsAcceptingRun m v qs → rs ≡ qs → vs ≡ v → told ≡ concat (shortened all (letter_lines t ds rs vs 0)) → advised ≡ advice u.cause → text ≡ told ++ advised →
    IsTraceStory t ds g all u text
story_told t ds g all u text told advised m w v vs qs rs letters same word run places spelled lines what is = record {
  word = w;
  letters = letters;
  places = qs;
  run = other_run g.automaton m w v qs same word run;
  is =
      let read : vs ≡ w = spelled ∙ word in
      let whole : told ≡ concat (shortened all (letter_lines t ds qs w 0)) = lines ∙ (λ i. concat (shortened all (letter_lines t ds (places i) (read i) 0))) in
      is ∙ (λ i. whole i ++ what i);
}
