-- The parts of a program's graph, once they are lowered.
use Rattle.std.proofs.Common.{◌≡◌, ℕ, zero, suc, Bool, ◌+◌, ◌<◌, ◌≤◌, List, [], ◌∷◌, ◌++◌, map, length, drop, get_or, Option, Result, Ok, IfOk, refl, sym, ◌∙◌, ap, subst, append-nil, append_assoc, drop-cons, arith}
use Rattle.std.specs.Prelude.{OnOk}
use Rattle.std.specs.List.{AllByRecursion}
use Rattle.std.proofs.lemmas.List.{length-map}
use Rattle.typed_tree.specs.TypedTree.{TypedProcedure, TypedProgram}
use Rattle.nwa_base.specs.declared.letters.Kind.{Kind}
use Rattle.nwa_base.specs.declared.letters.Letter.{Letter}
use Rattle.nwa_base.specs.Automata.{Automaton, IsEdge, IsBackEdge}
use Rattle.letter_acts.specs.declared.sites.Site.{Site}
use Rattle.letter_acts.specs.declared.acts.Act.{Act}
use Rattle.letter_acts.specs.Acts.{PlainAct, plain_act, plain_acts, mark_of, marks_of}
use Rattle.letter_acts.specs.Frames.{Columns}
use Rattle.letter_acts.specs.Invariant.{Graph, site_places}
use Rattle.letter_acts.specs.LetterTable.Letters.{Lettered, lettered, marked_acts}
use Rattle.lowered_graph.specs.Arcs.{first_error, program_arcs}
use Rattle.lowered_graph.specs.Lowered.{counted_procs, program_sites, lowered}
use Rattle.icfg_lower.proofs.BodyEnds.{from_number}

pub made_ok : {A E : Type 0} (r : Result A E) (x : A) (P : A → Type 0) → r ≡ Ok x → IfOk r P → P x
made_ok {A} {E} r x P e h = subst (λ (z : Result A E). IfOk z P) e h

pub if_ok_so : {A E : Type 0} (P Q : A → Type 0) (r : Result A E) → ((x : A) → P x → Q x) → IfOk r P → IfOk r Q
if_ok_so P Q (Ok x) f h = f x h
if_ok_so P Q r f h = h

pub on_made : {A E : Type 0} (r : Result A E) (x : A) (P : Type 0) → r ≡ Ok x → OnOk r P → P
on_made {A} {E} r x P e h = subst (λ (z : Result A E). OnOk z P) e h

-- ---- edges that are added one after another

pub one_added : {X : Type 0} (xs : List X) (i : ℕ) (d : X) (before after all : List X) → i < length xs → after ≡ before ++ get_or xs i d ∷ [] → before ++ drop i xs ≡ all → after ++ drop (i + 1) xs ≡ all
one_added xs i d before after all l e h =
    let s : suc i ≡ i + 1 = omega arith in
    (λ j. e j ++ drop (i + 1) xs) ∙ append_assoc before (get_or xs i d ∷ []) (drop (i + 1) xs) ∙ (λ j. before ++ (get_or xs i d ∷ drop (sym s j) xs)) ∙ (λ j. before ++ sym (drop-cons xs i d l) j) ∙ h

pub drop_past : {X : Type 0} (xs : List X) (i : ℕ) → length xs ≤ i → drop i xs ≡ []
drop_past [] zero l = refl
drop_past [] (suc i) l = refl
drop_past (x ∷ xs) zero l = absurd (omega (arith, l))
drop_past (x ∷ xs) (suc i) l = drop_past xs i (omega (arith, l))

pub all_added : {X : Type 0} (xs : List X) (i : ℕ) (before all : List X) → length xs ≤ i → before ++ drop i xs ≡ all → before ≡ all
all_added xs i before all l h = sym (append-nil before) ∙ (λ j. before ++ sym (drop_past xs i l) j) ∙ h

-- procedures that are numbered one after another
pub all_numbered : {X : Type 0} (t : TypedProgram) (f : ℕ × TypedProcedure → X) (n k : ℕ) (old all : List X) → k ≡ length t.procs → k ≤ n → old ++ map f (from_number t n) ≡ all → old ≡ all
all_numbered t f n k old all e l h = sym (append-nil old) ∙ (λ j. old ++ map f (counted_procs n (sym (drop_past t.procs n (omega (arith, e, l))) j))) ∙ h

-- ---- places and edges

pub places_below : (n : ℕ) (sites : List Site) → AllByRecursion (λ (q : ℕ). q < n) (site_places sites) → AllByRecursion (λ (s : Site). s.place < n) sites
places_below n [] h = tt
places_below n (s ∷ sites) h = (h.0, places_below n sites h.1)

pub edges_of : (n m : ℕ) (kind : Kind) (es xs : List (ℕ × Letter × ℕ)) → n ≡ m → xs ≡ es → AllByRecursion (IsEdge m kind) es → AllByRecursion (IsEdge n kind) xs
edges_of n m kind es xs e f h = subst (λ (k : ℕ). AllByRecursion (IsEdge k kind) xs) (sym e) (subst (AllByRecursion (IsEdge m kind)) (sym f) h)

pub backs_of : (n m : ℕ) (es xs : List (ℕ × ℕ × Letter × ℕ)) → n ≡ m → xs ≡ es → AllByRecursion (IsBackEdge m) es → AllByRecursion (IsBackEdge n) xs
backs_of n m es xs e f h = subst (λ (k : ℕ). AllByRecursion (IsBackEdge k) xs) (sym e) (subst (AllByRecursion (IsBackEdge m)) (sym f) h)

-- ---- the graph

-- the automaton of these sites and letters is that of the program
pub automaton_is : (t : TypedProgram) (states : ℕ) (sites : List Site) (d : Lettered) → states ≡ first_error t + length (program_sites t) →
    sites ≡ map (λ s. s.1) (program_sites t) → d ≡ lettered (program_arcs t) →
    ◌≡◌ {A = Automaton} (record { states = states; start = 0; finals = site_places sites; insides = d.insides; calls = d.calls; backs = d.backs }) (lowered t).automaton
automaton_is t states sites d n e f =
    let long : length (map (λ (s : ℕ × Site). s.1) (program_sites t)) ≡ length (program_sites t) = length-map (program_sites t) (λ (s : ℕ × Site). s.1) in
    let all : states ≡ first_error t + length (map (λ (s : ℕ × Site). s.1) (program_sites t)) = omega arith in
    λ i. record { states = all i; start = 0; finals = site_places (e i); insides = (f i).insides; calls = (f i).calls; backs = (f i).backs }

pub graph_is : (t : TypedProgram) (nwa : Automaton) (acts : List PlainAct) (marks : List Bool) (frames : List Columns) (names : List (List ℕ)) (owners : List ℕ) (entries exits : List (Option ℕ)) (sites : List Site) →
    nwa ≡ (lowered t).automaton → acts ≡ (lowered t).acts → marks ≡ (lowered t).marks → frames ≡ (lowered t).frames → names ≡ (lowered t).names → owners ≡ (lowered t).place_procs →
    entries ≡ (lowered t).entries → exits ≡ (lowered t).exits → sites ≡ (lowered t).sites →
    ◌≡◌ {A = Graph} (record { automaton = nwa; acts = acts; marks = marks; frames = frames; names = names; place_procs = owners; entries = entries; exits = exits; sites = sites }) (lowered t)
graph_is t nwa acts marks frames names owners entries exits sites a b m c d e f g h =
    λ i. record { automaton = a i; acts = b i; marks = m i; frames = c i; names = d i; place_procs = e i; entries = f i; exits = g i; sites = h i }

-- acts with their marks, taken apart
pub acts_apart : (acts : List Act) → plain_acts acts ≡ map (λ a. a.act) (marked_acts acts)
acts_apart [] = refl
acts_apart (a ∷ acts) = ap (λ (xs : List PlainAct). plain_act a ∷ xs) (acts_apart acts)

pub marks_apart : (acts : List Act) → marks_of acts ≡ map (λ a. a.coarse) (marked_acts acts)
marks_apart [] = refl
marks_apart (a ∷ acts) = ap (λ (xs : List Bool). mark_of a ∷ xs) (marks_apart acts)
