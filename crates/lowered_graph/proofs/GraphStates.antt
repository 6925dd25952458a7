-- The edges of a program's graph lead between its states, by letters of their kind, and its final states are states.
use Rattle.std.proofs.Common.{◌≡◌, ◌∙◌, ℕ, zero, suc, ◌+◌, ◌<◌, ◌≤◌, List, [], ◌∷◌, map, length, Option, None, Some, inl, inr, refl, ap, subst, arith, IsTrue}
use Rattle.std.specs.Prelude.{slice_get}
use Rattle.std.specs.List.{AllByRecursion}
use Rattle.std.proofs.lemmas.List.{length-map}
use Rattle.typed_tree.specs.TypedTree.{TypedProgram}
use Rattle.typed_tree.specs.TypingRules.ValidProgram.{is_valid}
use Rattle.nwa_base.specs.Members.{Member}
use Rattle.nwa_base.specs.Automata.{IsAutomaton, IsEdge, IsBackEdge}
use Rattle.nwa_base.specs.declared.letters.Kind.TheVariants.{Inside, Call, Back}
use Rattle.nwa_base.specs.declared.letters.Letter.{Letter}
use Rattle.letter_acts.specs.declared.sites.Site.{Site}
use Rattle.letter_acts.specs.Acts.{PlainAct, inside_act, call_act, back_act, letter_of}
use Rattle.letter_acts.specs.Invariant.{Graph, IsPlaceOf, HaveBodies, HasProcedures, InsideStays, InsideFollows, CallEnters, CallFollows, BackLeaves, BackFollows, HasEdges, site_places}
use Rattle.letter_acts.proofs.ListLemmas.{all_member, all_from_members}
use Rattle.boogie_run.specs.BoogiePlaces.Places.{count_from}
use Rattle.letter_acts.specs.LetterTable.Letters.{lettered}
use Rattle.lowered_graph.specs.Arcs.{error_place, first_error, program_arcs}
use Rattle.lowered_graph.specs.LetterLaws.{InsideOf, CallOf, BackOf}
use Rattle.lowered_graph.specs.Lowered.{program_sites, lowered}
use Rattle.lowered_graph.proofs.ActNumbers.{act_got}
use Rattle.lowered_graph.proofs.LetterSets.{insides_are, calls_are, backs_are}
use Rattle.lowered_graph.proofs.JoinedBack.{letter_act}
use Rattle.lowered_graph.proofs.SiteNumbers.{number_of_site, sites_numbered, site_positive, site_place}

-- ---- places

place_below : (procs : List ℕ) (p q : ℕ) → IsPlaceOf procs p q → q < length procs
place_below [] p q e = absurd (cc)
place_below (r ∷ procs) p zero e = omega arith
place_below (r ∷ procs) p (suc q) e = let h = place_below procs p q e in omega arith

-- a place where a body begins, or from which it returns, belongs to some procedure
begins_at : (procs : List ℕ) (p : ℕ) (es xs : List (Option ℕ)) (k e : ℕ) → HaveBodies procs p es xs → slice_get es k ≡ Some (Some e) → e < length procs
begins_at procs p [] xs k e h f = absurd (cc)
begins_at procs p (o ∷ es) [] k e h f = absurd h
begins_at procs p (None ∷ es) (x ∷ xs) zero e h f = absurd (cc)
begins_at procs p (Some d ∷ es) (None ∷ xs) zero e h f = absurd h.0
begins_at procs p (Some d ∷ es) (Some x ∷ xs) zero e h f =
    let same : d ≡ e = cc in
    subst (λ (n : ℕ). n < length procs) same (place_below procs p d h.0.0)
begins_at procs p (o ∷ es) (x ∷ xs) (suc k) e h f = begins_at procs (suc p) es xs k e h.1 f

returns_at : (procs : List ℕ) (p : ℕ) (es xs : List (Option ℕ)) (k x : ℕ) → HaveBodies procs p es xs → slice_get xs k ≡ Some (Some x) → x < length procs
returns_at procs p es [] k x h f = absurd (cc)
returns_at procs p [] (o ∷ xs) k x h f = absurd h
returns_at procs p (e ∷ es) (None ∷ xs) zero x h f = absurd (cc)
returns_at procs p (None ∷ es) (Some y ∷ xs) zero x h f = absurd h.0
returns_at procs p (Some e ∷ es) (Some y ∷ xs) zero x h f =
    let same : y ≡ x = cc in
    subst (λ (n : ℕ). n < length procs) same (place_below procs p y h.0.1)
returns_at procs p (e ∷ es) (o ∷ xs) (suc k) x h f = returns_at procs (suc p) es xs k x h.1 f

-- ---- edges

inside_is : (g : Graph) (p : HasProcedures g) (q e : ℕ) (a : Letter) (act : PlainAct) → a ≡ letter_of a.id act → InsideStays g (Some act) q e → IsEdge g.automaton.states Inside (q, a, e)
inside_is g p q e a (inside_act n written helpers rows) l s =
    let i = place_below g.place_procs n q s.0 in
    let j = place_below g.place_procs n e s.1 in
    let long = p.place_procs in
    record { «from» = omega arith; to = omega arith; letter = ap (λ (b : Letter). b.kind) l }
inside_is g p q e a (call_act caller callee helpers rows) l s = absurd s
inside_is g p q e a (back_act c targets) l s = absurd s

call_is : (g : Graph) (p : HasProcedures g) (q e : ℕ) (a : Letter) (act : PlainAct) → a ≡ letter_of a.id act → CallEnters g (Some act) q e → IsEdge g.automaton.states Call (q, a, e)
call_is g p q e a (inside_act n written helpers rows) l s = absurd s
call_is g p q e a (call_act caller callee helpers rows) l s =
    let i = place_below g.place_procs caller q s.0 in
    let j = begins_at g.place_procs 0 g.entries g.exits callee e p.bodies s.1 in
    let long = p.place_procs in
    record { «from» = omega arith; to = omega arith; letter = ap (λ (b : Letter). b.kind) l }
call_is g p q e a (back_act c targets) l s = absurd s

back_is : (g : Graph) (p : HasProcedures g) (q r e : ℕ) (a : Letter) (act : PlainAct) → a.kind ≡ Back → BackLeaves g (Some act) q r e → IsBackEdge g.automaton.states (q, r, a, e)
back_is g p q r e a (inside_act n written helpers rows) k s = absurd s
back_is g p q r e a (call_act caller callee helpers rows) k s =
    let i = returns_at g.place_procs 0 g.entries g.exits callee q p.bodies s.0 in
    let h = place_below g.place_procs caller r s.1 in
    let j = place_below g.place_procs caller e s.2 in
    let long = p.place_procs in
    record { «from» = omega arith; before = omega arith; to = omega arith; letter = k }
back_is g p q r e a (back_act c targets) k s = absurd s

insides_lead : (t : TypedProgram) → HasProcedures (lowered t) → HasEdges (lowered t) → AllByRecursion (IsEdge (lowered t).automaton.states Inside) (lowered t).automaton.insides
insides_lead t p g = all_from_members (IsEdge (lowered t).automaton.states Inside) (lowered t).automaton.insides (λ e m.
    let h : InsideOf (program_arcs t) (lettered (program_arcs t)).acts e.0 e.1 e.2 = (insides_are (program_arcs t) e.0 e.2 e.1).0 m in
    let f : InsideFollows (lowered t) e = all_member (InsideFollows (lowered t)) (lowered t).automaton.insides e m g.insides in
    inside_is (lowered t) p e.0 e.2 e.1 h.act.act h.letter.1 (subst (λ (o : Option PlainAct). InsideStays (lowered t) o e.0 e.2) (letter_act t e.1 h.act h.letter) f.stays))

calls_lead : (t : TypedProgram) → HasProcedures (lowered t) → HasEdges (lowered t) → AllByRecursion (IsEdge (lowered t).automaton.states Call) (lowered t).automaton.calls
calls_lead t p g = all_from_members (IsEdge (lowered t).automaton.states Call) (lowered t).automaton.calls (λ e m.
    let h : CallOf (program_arcs t) (lettered (program_arcs t)).acts e.0 e.1 e.2 = (calls_are (program_arcs t) e.0 e.2 e.1).0 m in
    let f : CallFollows (lowered t) e = all_member (CallFollows (lowered t)) (lowered t).automaton.calls e m g.calls in
    call_is (lowered t) p e.0 e.2 e.1 h.act.act h.letter.1 (subst (λ (o : Option PlainAct). CallEnters (lowered t) o e.0 e.2) (letter_act t e.1 h.act h.letter) f.enters))

backs_lead : (t : TypedProgram) → HasProcedures (lowered t) → HasEdges (lowered t) → AllByRecursion (IsBackEdge (lowered t).automaton.states) (lowered t).automaton.backs
backs_lead t p g = all_from_members (IsBackEdge (lowered t).automaton.states) (lowered t).automaton.backs (λ e m.
    let h : BackOf (program_arcs t) (lettered (program_arcs t)).acts e.0 e.1 e.2 e.3 = (backs_are (program_arcs t) e.0 e.1 e.3 e.2).0 m in
    let f : BackFollows (lowered t) e = all_member (BackFollows (lowered t)) (lowered t).automaton.backs e m g.backs in
    let call : e.2.call ≡ h.call = ap (λ (a : Letter). a.call) h.letter.1 in
    let act : slice_get (lowered t).acts e.2.call ≡ Some h.act.act = ap (slice_get (lowered t).acts) call ∙ act_got (lettered (program_arcs t)).acts h.call h.act h.called in
    back_is (lowered t) p e.0 e.1 e.3 e.2 h.act.act (ap (λ (a : Letter). a.kind) h.letter.1) (subst (λ (o : Option PlainAct). BackLeaves (lowered t) o e.0 e.1 e.3) act f.leaves))

-- ---- final states

number_below : {X : Type 0} (f : X → ℕ) (xs : List X) (n k : ℕ) (x : X) → map f xs ≡ count_from n k → Member xs x → f x < n + k
number_below f [] n k x e m = absurd m
number_below f (y ∷ xs) n zero x e m = cc
number_below f (y ∷ xs) n (suc k) x e (inl is) =
    let first : f y ≡ n = cc in
    let same : f y ≡ f x = ap f is in
    omega arith
number_below f (y ∷ xs) n (suc k) x e (inr m) =
    let rest : map f xs ≡ count_from (n + 1) k = cc in
    let l = number_below f xs (n + 1) k x rest m in
    omega arith

all_places : (n : ℕ) (ss : List (ℕ × Site)) → ((s : ℕ × Site) → Member ss s → s.1.place < n) → AllByRecursion (λ (q : ℕ). q < n) (site_places (map (λ s. s.1) ss))
all_places n [] h = tt
all_places n (s ∷ ss) h = (h s (inl refl), all_places n ss (λ x m. h x (inr m)))

finals_are : (t : TypedProgram) → IsTrue (is_valid t) → AllByRecursion (λ (q : ℕ). q < (lowered t).automaton.states) (lowered t).automaton.finals
finals_are t v = all_places (lowered t).automaton.states (program_sites t) (λ s m.
    let low : 1 ≤ s.1.id.number = site_positive t v s m in
    let high : number_of_site s < 1 + length (program_sites t) = number_below number_of_site (program_sites t) 1 (length (program_sites t)) s (sites_numbered t v) m in
    let at : s.1.place ≡ error_place t s.1.id.number = site_place t s m in
    let long : length (map (λ (x : ℕ × Site). x.1) (program_sites t)) ≡ length (program_sites t) = length-map (program_sites t) (λ (x : ℕ × Site). x.1) in
    let below : s.1.place < first_error t + length (map (λ (x : ℕ × Site). x.1) (program_sites t)) = omega arith in
    below)

pub is_automaton : (t : TypedProgram) → IsTrue (is_valid t) → HasProcedures (lowered t) → HasEdges (lowered t) → IsAutomaton (lowered t).automaton
is_automaton t v p g = record {
  start = (let some : 0 < first_error t + length (map (λ (x : ℕ × Site). x.1) (program_sites t)) = omega arith in some);
  finals = finals_are t v;
  insides = insides_lead t p g;
  calls = calls_lead t p g;
  backs = backs_lead t p g;
}
