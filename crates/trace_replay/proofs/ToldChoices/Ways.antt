-- Which way is chosen: the first inside edge from a place that leads to the next one.
use Rattle.std.proofs.Common.{◌≡◌, ◌∙◌, ℕ, zero, suc, ◌+◌, ◌-◌, ◌<◌, ◌≤◌, Bool, true, false, nat_eq, List, [], ◌∷◌, ◌++◌, map, length, Some, refl, sym, ap, arith, append_assoc, append-nil, eq-eqb, ne_eqb, IsTrue}
use Rattle.std.specs.Prelude.{slice_get, if◌then◌else◌}
use Rattle.typed_tree.specs.TypedTree.{TypedProgram}
use Rattle.typed_tree.specs.TypingRules.ValidProgram.{is_valid}
use Rattle.nwa_base.specs.declared.letters.Letter.{Letter}
use Rattle.nwa_base.specs.Edges.{leaving}
use Rattle.letter_acts.specs.LetterTable.Letters.{Arc, inside_arc, call_arc, Lettered, with_arc, with_arcs, no_letters, numbered_letter}
use Rattle.cond_jumps.specs.FreeProducts.Letters.{MarkedConjunction}
use Rattle.boogie_run.specs.BoogiePoints.Points.{Point}
use Rattle.boogie_run.specs.BoogiePoints.Actions as actions
use Rattle.boogie_run.specs.BoogiePoints.Actions.{Action, action_at}
use Rattle.boogie_run.specs.BoogiePoints.Starts.{start_point_of}
use Rattle.boogie_run.specs.BoogiePlaces.Places.{Place, count_from, number_of, program_places}
use Rattle.lowered_graph.specs.LoweredSteps.Edges.{Edge, inside_edges, call_letters, skips}
use Rattle.lowered_graph.specs.LoweredRuns.Choices.{way_to}
use Rattle.lowered_graph.specs.Arcs.{place_number, spot_number, inside_arcs, call_arcs, action_arcs, arcs_at, arcs_of, program_arcs}
use Rattle.lowered_graph.specs.Lowered.{lowered}
use Rattle.lowered_graph.proofs.KnownPlaces.{PlaceLaws}
use Rattle.trace_replay.specs.ToldChoices.Telling.{first_to}

-- ---- the ends of inside arcs

abbrev ends_of : List (ℕ × Letter × ℕ) → List ℕ
ends_of edges = map (λ e. e.2) edges

-- of the inside arcs from this place
abbrev ends_from : ℕ → List Arc → List ℕ
ends_from q [] = []
ends_from q (inside_arc p a e ∷ arcs) = if nat_eq p q then e ∷ ends_from q arcs else ends_from q arcs
ends_from q (call_arc p a e x targets k ∷ arcs) = ends_from q arcs

one_end : (b : Bool) (p : ℕ) (l : Letter) (e : ℕ) → ends_of (if b then (p, l, e) ∷ [] else []) ≡ (if b then e ∷ [] else [])
one_end true p l e = refl
one_end false p l e = refl

kept_ends : (b : Bool) (x : ℕ × Letter × ℕ) (ys zs : List (ℕ × Letter × ℕ)) (ms : List ℕ) → ends_of ys ≡ ends_of zs ++ ms → ends_of (if b then x ∷ ys else ys) ≡ ends_of (if b then x ∷ zs else zs) ++ ms
kept_ends true x ys zs ms h = ap (λ (l : List ℕ). x.2 ∷ l) h
kept_ends false x ys zs ms h = h

last_end : (q : ℕ) (xs : List (ℕ × Letter × ℕ)) (p : ℕ) (l : Letter) (e : ℕ) → ends_of (leaving q (xs ++ (p, l, e) ∷ [])) ≡ ends_of (leaving q xs) ++ (if nat_eq p q then e ∷ [] else [])
last_end q [] p l e = one_end (nat_eq p q) p l e
last_end q (x ∷ xs) p l e = kept_ends (nat_eq x.0 q) x (leaving q (xs ++ (p, l, e) ∷ [])) (leaving q xs) (if nat_eq p q then e ∷ [] else []) (last_end q xs p l e)

in_front : (b : Bool) (e : ℕ) (ms : List ℕ) → (if b then e ∷ [] else []) ++ ms ≡ (if b then e ∷ ms else ms)
in_front true e ms = refl
in_front false e ms = refl

arcs_ends : (q : ℕ) (arcs : List Arc) (d : Lettered) → ends_of (leaving q (with_arcs d arcs).insides) ≡ ends_of (leaving q d.insides) ++ ends_from q arcs
arcs_ends q [] d = sym (append-nil (ends_of (leaving q d.insides)))
arcs_ends q (inside_arc p a e ∷ arcs) d =
    arcs_ends q arcs (with_arc d (inside_arc p a e)) ∙ ap (λ (l : List ℕ). l ++ ends_from q arcs) (last_end q d.insides p (numbered_letter d.acts a) e)
    ∙ append_assoc (ends_of (leaving q d.insides)) (if nat_eq p q then e ∷ [] else []) (ends_from q arcs)
    ∙ ap (λ (l : List ℕ). ends_of (leaving q d.insides) ++ l) (in_front (nat_eq p q) e (ends_from q arcs))
arcs_ends q (call_arc p a e x targets k ∷ arcs) d = arcs_ends q arcs (with_arc d (call_arc p a e x targets k))

-- ---- place by place

joined_ends : (b : Bool) (e : ℕ) (l m n : List ℕ) → l ≡ m ++ n → (if b then e ∷ l else l) ≡ (if b then e ∷ m else m) ++ n
joined_ends true e l m n h = ap (λ (k : List ℕ). e ∷ k) h
joined_ends false e l m n h = h

ends_append : (q : ℕ) (xs ys : List Arc) → ends_from q (xs ++ ys) ≡ ends_from q xs ++ ends_from q ys
ends_append q [] ys = refl
ends_append q (inside_arc p a e ∷ xs) ys = joined_ends (nat_eq p q) e (ends_from q (xs ++ ys)) (ends_from q xs) (ends_from q ys) (ends_append q xs ys)
ends_append q (call_arc p a e x targets k ∷ xs) ys = ends_append q xs ys

abbrev edge_ends : TypedProgram → ℕ → List Edge → List ℕ
edge_ends t n edges = map (λ e. spot_number t n e.to) edges

inside_here : (q : ℕ) (t : TypedProgram) (n : ℕ) (here : Point) (edges : List Edge) → nat_eq (place_number t n here) q ≡ true → ends_from q (inside_arcs t n here edges) ≡ edge_ends t n edges
inside_here q t n here [] h = refl
inside_here q t n here (e ∷ edges) h =
    let rest = inside_here q t n here edges h in
    ap (λ (b : Bool). if b then spot_number t n e.to ∷ ends_from q (inside_arcs t n here edges) else ends_from q (inside_arcs t n here edges)) h ∙ ap (λ (l : List ℕ). spot_number t n e.to ∷ l) rest

inside_not_here : (q : ℕ) (t : TypedProgram) (n : ℕ) (here : Point) (edges : List Edge) → nat_eq (place_number t n here) q ≡ false → ends_from q (inside_arcs t n here edges) ≡ []
inside_not_here q t n here [] h = refl
inside_not_here q t n here (e ∷ edges) h =
    ap (λ (b : Bool). if b then spot_number t n e.to ∷ ends_from q (inside_arcs t n here edges) else ends_from q (inside_arcs t n here edges)) h ∙ inside_not_here q t n here edges h

no_calls : (q : ℕ) (t : TypedProgram) (n : ℕ) (here : Point) (f : ℕ) (cs : List MarkedConjunction) → ends_from q (call_arcs t n here f cs) ≡ []
no_calls q t n here f [] = refl
no_calls q t n here f (c ∷ cs) = no_calls q t n here f cs

action_not_here : (q : ℕ) (t : TypedProgram) (n : ℕ) (p : Point) (a : Action) → nat_eq (place_number t n p) q ≡ false → ends_from q (action_arcs t n p a) ≡ []
action_not_here q t n p (actions.Enter f args) h = no_calls q t n p f (call_letters t n f args)
action_not_here q t n p (actions.Check id at e next) h = inside_not_here q t n p (inside_edges t n p (actions.Check id at e next)) h
action_not_here q t n p (actions.Suppose e next) h = inside_not_here q t n p (inside_edges t n p (actions.Suppose e next)) h
action_not_here q t n p (actions.Demand id at e args next) h = inside_not_here q t n p (inside_edges t n p (actions.Demand id at e args next)) h
action_not_here q t n p (actions.Write cs es next) h = inside_not_here q t n p (inside_edges t n p (actions.Write cs es next)) h
action_not_here q t n p (actions.Guess c next) h = inside_not_here q t n p (inside_edges t n p (actions.Guess c next)) h
action_not_here q t n p (actions.Test e hit miss) h = inside_not_here q t n p (inside_edges t n p (actions.Test e hit miss)) h
action_not_here q t n p (actions.Pick ways) h = inside_not_here q t n p (inside_edges t n p (actions.Pick ways)) h
action_not_here q t n p (actions.Jump next) h = inside_not_here q t n p (inside_edges t n p (actions.Jump next)) h
action_not_here q t n p (actions.Keep f args c next) h = inside_not_here q t n p (inside_edges t n p (actions.Keep f args c next)) h
action_not_here q t n p (actions.Grant f args e next) h = inside_not_here q t n p (inside_edges t n p (actions.Grant f args e next)) h
action_not_here q t n p (actions.Finish f args targets next) h = inside_not_here q t n p (inside_edges t n p (actions.Finish f args targets next)) h
action_not_here q t n p actions.Leave h = inside_not_here q t n p (inside_edges t n p actions.Leave) h

place_elsewhere : (q : ℕ) (t : TypedProgram) (x : Place) → (number_of t x ≡ q → ⊥) → ends_from q (arcs_at t x) ≡ []
place_elsewhere q t x differs = action_not_here q t x.proc x.point (action_at t x.proc x.point) (ne_eqb (number_of t x) q differs)

none_below : (t : TypedProgram) (ps : List Place) (n k q : ℕ) → map (number_of t) ps ≡ count_from n k → q < n → ends_from q (arcs_of t ps) ≡ []
none_below t [] n k q e less = refl
none_below t (x ∷ xs) n zero q e less = absurd (let no : ⊥ = cc in no)
none_below t (x ∷ xs) n (suc k) q e less =
    let first : number_of t x ≡ n = cc in
    let rest : map (number_of t) xs ≡ count_from (n + 1) k = cc in
    ends_append q (arcs_at t x) (arcs_of t xs)
    ∙ (λ i. place_elsewhere q t x (λ h. (let same : q ≡ n = sym h ∙ first in omega arith)) i ++ none_below t xs (n + 1) k q rest (omega arith) i)

place_ends : (t : TypedProgram) (ps : List Place) (n k m q : ℕ) (p : Place) → map (number_of t) ps ≡ count_from n k → slice_get ps m ≡ Some p → q ≡ n + m → ends_from q (arcs_of t ps) ≡ ends_from q (arcs_at t p)
place_ends t [] n k m q p e got at = absurd (let no : ⊥ = cc in no)
place_ends t (x ∷ xs) n zero m q p e got at = absurd (let no : ⊥ = cc in no)
place_ends t (x ∷ xs) n (suc k) zero q p e got at =
    let same : x ≡ p = cc in
    let rest : map (number_of t) xs ≡ count_from (n + 1) k = cc in
    ends_append q (arcs_at t x) (arcs_of t xs) ∙ ap (λ (l : List ℕ). ends_from q (arcs_at t x) ++ l) (none_below t xs (n + 1) k q rest (omega arith)) ∙ append-nil (ends_from q (arcs_at t x)) ∙ ap (λ (y : Place). ends_from q (arcs_at t y)) same
place_ends t (x ∷ xs) n (suc k) (suc m) q p e got at =
    let first : number_of t x ≡ n = cc in
    let rest : map (number_of t) xs ≡ count_from (n + 1) k = cc in
    ends_append q (arcs_at t x) (arcs_of t xs)
    ∙ (λ i. place_elsewhere q t x (λ h. (let same : q ≡ n = sym h ∙ first in omega arith)) i ++ place_ends t xs (n + 1) k m q p rest got (omega arith) i)

-- ---- ways

-- which of these numbers is the first that is q
abbrev first_in : ℕ → List ℕ → ℕ
first_in q [] = 0
first_in q (e ∷ es) = if nat_eq e q then 0 else suc (first_in q es)

first_of : (q : ℕ) (edges : List (ℕ × Letter × ℕ)) → first_to q edges ≡ first_in q (ends_of edges)
first_of q [] = refl
first_of q (e ∷ es) = ap (λ (k : ℕ). if nat_eq e.2 q then 0 else suc k) (first_of q es)

way_is : (t : TypedProgram) (n place : ℕ) (ways : List Point) → way_to t n place ways ≡ first_in place (map (place_number t n) ways)
way_is t n place [] = refl
way_is t n place (p ∷ ps) = ap (λ (k : ℕ). if nat_eq (number_of t (record { proc = n; point = p })) place then 0 else suc k) (way_is t n place ps)

skip_ends : (t : TypedProgram) (n : ℕ) (ways : List Point) → edge_ends t n (skips ways) ≡ map (place_number t n) ways
skip_ends t n [] = refl
skip_ends t n (p ∷ ps) = ap (λ (l : List ℕ). place_number t n p ∷ l) (skip_ends t n ps)

-- The inside edges from a place at which ways are chosen lead to these ways, in order.
pub pick_ends : (l : PlaceLaws) (t : TypedProgram) → IsTrue (is_valid t) → (q : ℕ) (x : Place) (ways : List Point) → 1 ≤ q → slice_get (program_places t) (q - 1) ≡ Some x → number_of t x ≡ q → action_at t x.proc x.point ≡ actions.Pick ways →
    ends_of (leaving q (lowered t).automaton.insides) ≡ map (place_number t x.proc) ways
pick_ends l t v q x ways some got number is =
    let zero_not : nat_eq 0 q ≡ false = ne_eqb 0 q (λ (e : 0 ≡ q). omega arith) in
    let at : q ≡ 1 + (q - 1) = omega arith in
    let places = place_ends t (program_places t) 1 (length (program_places t)) (q - 1) q x (l.numbered t v) got at in
    let here : nat_eq (place_number t x.proc x.point) q ≡ true = eq-eqb (place_number t x.proc x.point) q number in
    arcs_ends q (program_arcs t) no_letters
    ∙ ap (λ (b : Bool). if b then place_number t t.entry (start_point_of t (slice_get t.procs t.entry)) ∷ ends_from q (arcs_of t (program_places t)) else ends_from q (arcs_of t (program_places t))) zero_not
    ∙ places ∙ ap (λ (a : Action). ends_from q (action_arcs t x.proc x.point a)) is
    ∙ inside_here q t x.proc x.point (skips ways) here ∙ skip_ends t x.proc ways

pub pick_way : (l : PlaceLaws) (t : TypedProgram) → IsTrue (is_valid t) → (q : ℕ) (x : Place) (ways : List Point) → 1 ≤ q → slice_get (program_places t) (q - 1) ≡ Some x → number_of t x ≡ q → action_at t x.proc x.point ≡ actions.Pick ways → (e : ℕ) →
    way_to t x.proc e ways ≡ first_to e (leaving q (lowered t).automaton.insides)
pick_way l t v q x ways some got number is e =
    way_is t x.proc e ways ∙ ap (first_in e) (sym (pick_ends l t v q x ways some got number is)) ∙ sym (first_of e (leaving q (lowered t).automaton.insides))
