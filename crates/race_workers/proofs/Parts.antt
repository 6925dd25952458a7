-- What a worker's pass carries, as the calls of its cell change it.
use Rattle.std.proofs.Common.{◌≡◌, ◌⊎◌, inl, inr, ⊎_elim, ℕ, ◌+◌, ◌<◌, List, [], ◌∷◌, ◌++◌, length, Option, None, Some, Result, Ok, Err, refl, sym, subst, ap, ◌∙◌, arith}
use Rattle.std.specs.Prelude.{IsSome, MatchResult}
use Rattle.nwa_base.specs.declared.letters.Letter.{Letter}
use Rattle.nwa_base.specs.Automata.{Automaton}
use Rattle.nwa_base.specs.Acceptance.{Accepts}
use Rattle.letter_acts.specs.Invariant.{Graph}
use Rattle.typed_tree.specs.TypedTree.{TypedProgram}
use Rattle.lowered_graph.specs.Lowered.{lowered}
use Rattle.race_core.specs.declared.ends.End.{End}
use Rattle.race_core.specs.declared.ends.End.TheVariants.{Safe}
use Rattle.race_core.specs.declared.ends.EndKind.{EndKind}
use Rattle.race_core.specs.declared.events.Entry.{Entry}
use Rattle.race_core.specs.declared.events.FinishRefused.{FinishRefused}
use Rattle.race_core.specs.declared.events.Why.{Why}
use Rattle.race_core.specs.declared.events.Why.TheVariants.{Ended}
use Rattle.race_core.specs.Ends.{kind_of, kind_in}
use Rattle.race_core.specs.Races.{Race}
use Rattle.race_core.specs.Steps.{publish_refusal, finish_refusal}
use Rattle.itp_automaton.specs.Certified.{Certificate}
use Rattle.race_rounds.specs.Ends.{WordIsKept, EndMeets, no_word, one_word, SaysOfWord}
use Rattle.race_rounds.specs.declared.settling.Settled.TheVariants.{Removed}
use Rattle.race_rounds.specs.Rounds.{automaton_in, IsEvidence, IsOwn, SettlesWord}
use Rattle.version_cell.specs.Counts.{times, Begins}
use Rattle.version_cell.specs.Views.{first_of}
use Rattle.version_cell.specs.Passes.{Cell, Known, IsPassOf, WasAt, shown, owning, ending, part_of_pass, joined, Continues, Names, IsClosed}
use Rattle.version_cell.proofs.Sums.{times_last, times_either}
use Rattle.version_cell.proofs.Beginnings.{begins_more}
use Rattle.race_rounds.specs.declared.limits.Limits.{Limits}
use Rattle.race_workers.specs.Ties.Parts.{IsJob, OwnsEntries, OwnsEnd, IsPassAt, IsFresh, IsAsSeen}
use Rattle.race_workers.proofs.Lists.{get_begins, get_last, begins_all}

-- ---- ends

first_either : (a b : Option End) (e : End) → first_of a b ≡ Some e → (a ≡ Some e) ⊎ (b ≡ Some e)
first_either None b e q = inr q
first_either (Some x) b e q = inl q

-- where a publication is taken no end is set
none_set : (e : Option End) (n limit base : ℕ) (k : EndKind) → publish_refusal e n limit base ≡ None → kind_in e ≡ Some k → ⊥
none_set None n limit base k taken q = cc
none_set (Some x) n limit base k taken q = cc

-- ---- the steps

entries_seen : (t : TypedProgram) (p q : Known Certificate) → OwnsEntries t p → Begins p.seen q.seen → p.own ≡ q.own → OwnsEntries t q
entries_seen t p q own s e place there =
    let x = own place (subst (λ (l : List ℕ). 0 < times place l) (sym e) there) in
    (x.0, get_begins p.seen q.seen place x.0 s x.1, x.2)

pub shows : (c : Cell) (t : TypedProgram) (limits : Limits) (n : ℕ) (p q : Known Certificate) (h : List (Entry Certificate)) (e : Option End) →
    IsPassAt c t limits n p → WasAt p h e → q ≡ shown p h e → IsPassOf c q → IsPassAt c t limits n q
shows c t limits n p q h e a w s of_cell =
    let P : Known Certificate → Type 0 = λ x. IsPassOf c x → IsPassAt c t limits n x in
    subst P (sym s) (λ at. record {
      of_cell = at;
      shares = a.shares;
      entries = entries_seen t p (shown p h e) a.entries w.0 refl;
      end = λ end f. let x = a.end end f in let y = w.1 (kind_of end) x.0 in
          (y.0, subst (λ (l : List (Entry Certificate)). EndMeets automaton_in t limits l end) y.1 x.1);
    }) of_cell

pub owns : (c : Cell) (t : TypedProgram) (limits : Limits) (n : ℕ) (p q : Known Certificate) (h : List (Entry Certificate)) (e : Option End)
    (limit base : ℕ) (entry : Entry Certificate) → IsPassAt c t limits n p → WasAt p h e → publish_refusal e (length h) limit base ≡ None →
    length h ≡ base → q ≡ owning p h entry base → IsOwn t entry → IsPassOf c q → IsPassAt c t limits n q
owns c t limits n p q h e limit base entry a w taken at s own of_cell =
    let P : Known Certificate → Type 0 = λ x. IsPassOf c x → IsPassAt c t limits n x in
    let whole : Begins p.seen (h ++ entry ∷ []) = begins_more p.seen h entry w.0 in
    let entries : OwnsEntries t (owning p h entry base) = λ place there.
    ⊎_elim
    (λ before. let x = a.entries place before in (x.0, get_begins p.seen (h ++ entry ∷ []) place x.0 whole x.1, x.2))
    (λ same. (entry, get_last h entry place (at ∙ sym same), own))
    (times_last place base p.own there) in
    subst P (sym s) (λ of_c. record {
      of_cell = of_c;
      shares = a.shares;
      entries = entries;
      end = λ end f. let x = a.end end f in absurd (none_set e (length h) limit base (kind_of end) taken (w.1 (kind_of end) x.0).0);
    }) of_cell

pub ends : (c : Cell) (t : TypedProgram) (limits : Limits) (n : ℕ) (p q : Known Certificate) (h : List (Entry Certificate)) (e : Option End)
    (base : ℕ) (end : End) → IsPassAt c t limits n p → WasAt p h e → length h ≡ base → base ≡ length p.seen → q ≡ ending p h end →
    EndMeets automaton_in t limits p.seen end → IsPassOf c q → IsPassAt c t limits n q
ends c t limits n p q h e base end a w at b s met of_cell =
    let P : Known Certificate → Type 0 = λ x. IsPassOf c x → IsPassAt c t limits n x in
    let same : h ≡ p.seen = begins_all p.seen h w.0 (at ∙ b) in
    let M : End → Type 0 = λ x. (Some (kind_of end) ≡ Some (kind_of x)) × EndMeets automaton_in t limits h x in
    let here : M end = (refl, subst (λ (l : List (Entry Certificate)). EndMeets automaton_in t limits l end) (sym same) met) in
    subst P (sym s) (λ of_c. record {
      of_cell = of_c;
      shares = a.shares;
      entries = entries_seen t p (ending p h end) a.entries w.0 refl;
      end = λ x f. let e : end ≡ x = cc in subst M e here;
    }) of_cell

pub joins : (c : Cell) (t : TypedProgram) (limits : Limits) (n m : ℕ) (p q r : Known Certificate) → IsPassAt c t limits n p → IsPassAt c t limits m q →
    r ≡ joined p q → Continues p r → Continues q r → IsPassOf c r → IsPassAt c t limits (n + m) r
joins c t limits n m p q r a b s x y of_cell =
    let own : r.own ≡ p.own ++ q.own = ap (λ (k : Known Certificate). k.own) s in
    let finish : r.finish ≡ first_of p.finish q.finish = ap (λ (k : Known Certificate). k.finish) s in
    let shares : r.shares ≡ p.shares + q.shares = ap (λ (k : Known Certificate). k.shares) s in
    let u = a.shares in let v = b.shares in
    let met : (k : Known Certificate) (end : End) → OwnsEnd t limits k → Continues k r → k.finish ≡ Some end →
    (r.ended ≡ Some (kind_of end)) × EndMeets automaton_in t limits r.seen end = λ k end ends goes f.
    let z = ends end f in let w = goes.1 (kind_of end) z.0 in
    (w.1, subst (λ (l : List (Entry Certificate)). EndMeets automaton_in t limits l end) w.0 z.1) in
    record {
      of_cell = of_cell;
      shares = omega (arith, shares, u, v);
      entries = λ place there.
          ⊎_elim
          (λ l. let z = a.entries place l in (z.0, get_begins p.seen r.seen place z.0 x.0 z.1, z.2))
          (λ l. let z = b.entries place l in (z.0, get_begins q.seen r.seen place z.0 y.0 z.1, z.2))
          (times_either place p.own q.own (subst (λ (l : List ℕ). 0 < times place l) own there));
      end = λ end f.
          ⊎_elim (λ l. met p end a.end x l) (λ l. met q end b.end y l) (first_either p.finish q.finish end (sym finish ∙ f));
    }

-- an end that was seen before a join is seen behind it
some_of : {X : Type 0} (s : Option X) → IsSome s → (x : X) × (s ≡ Some x)
some_of None h = cc
some_of (Some x) h = (x, refl)

pub still_ended : (p r : Known Certificate) → Continues p r → IsSome p.ended → IsSome r.ended
still_ended p r x h = let k = some_of p.ended h in subst (λ (s : Option EndKind). IsSome s) (sym (x.1 k.0 k.1).1) refl

-- ---- the first pass and the closed state

pub fresh : (c : Cell) (t : TypedProgram) (limits : Limits) (n : ℕ) (p : Known Certificate) → IsFresh c n p → IsPassAt c t limits n p
fresh c t limits n p f = record {
  of_cell = f.of_cell;
  shares = f.shares;
  entries = λ place there. let none : 0 < 0 = subst (λ (l : List ℕ). 0 < times place l) f.entries there in absurd (omega arith);
  end = λ end e. let none = f.end in cc;
}

some_kind : (e : Option End) (k : EndKind) → kind_in e ≡ Some k → IsSome e
some_kind None k q = cc
some_kind (Some e) k q = refl

pub closes_ended : (p : Known Certificate) (s : Race Certificate) → IsClosed p s → IsSome p.ended → IsSome s.end
closes_ended p s x h = let k = some_of p.ended h in some_kind s.end k.0 (x.ended k.0 k.1).0

-- ---- what a snapshot tells

pub program_of : (t : TypedProgram) (g : Graph) (l : Limits) (c : Cell) (p : Known Certificate) → IsJob t g l c → IsPassOf c p →
    p.program ≡ (lowered t).automaton
program_of t g l c p j at = at.program ∙ j.program ∙ ap (λ (x : Graph). x.automaton) j.lowered

pub kept : (t : TypedProgram) (g : Graph) (l : Limits) (c : Cell) (p : Known Certificate) (version : ℕ) (left : Automaton) (w : List Letter) →
    IsJob t g l c → IsPassOf c p → IsAsSeen p version left → Accepts left w → WordIsKept automaton_in (lowered t).automaton p.seen w
kept t g l c p version left w j at seen a =
    let x = (seen.1 w).0 a in
    record { error = subst (λ (m : Automaton). Accepts m w) (program_of t g l c p j at) x.0; left = x.1 }

-- where no word is kept the end is Safe
pub safe : (t : TypedProgram) (g : Graph) (limits : Limits) (c : Cell) (p : Known Certificate) (version : ℕ) (left : Automaton) →
    IsJob t g limits c → IsPassOf c p → IsAsSeen p version left → ((w : List Letter) → Accepts left w → ⊥) → EndMeets automaton_in t limits p.seen Safe
safe t g limits c p version left j at seen none =
    no_word refl (λ w x. none w ((seen.1 w).1 (subst (λ (m : Automaton). Accepts m w) (sym (program_of t g limits c p j at)) x.error, x.left)))

-- an end that says so much of a kept word is met
pub says : (t : TypedProgram) (g : Graph) (limits : Limits) (c : Cell) (p : Known Certificate) (version : ℕ) (left : Automaton)
    (w : List Letter) (e : End) → IsJob t g limits c → IsPassOf c p → IsAsSeen p version left → Accepts left w → SaysOfWord t limits version w e →
    EndMeets automaton_in t limits p.seen e
says t g limits c p version left w e j at seen a s =
    one_word w (kept t g limits c p version left w j at seen a) (subst (λ (n : ℕ). SaysOfWord t limits n w e) seen.0 s)

-- ---- what the calls answer

pub reads : (c : Cell) (t : TypedProgram) (limits : Limits) (n : ℕ) (p q : Known Certificate) → IsPassAt c t limits n p → IsPassOf c q →
    ((h : List (Entry Certificate)) × (e : Option End) × WasAt p h e × (q ≡ shown p h e)) → IsPassAt c t limits n q
reads c t limits n p q a at s = shows c t limits n p q s.0 s.1 a s.2 s.3 at

pub finishes : (c : Cell) (t : TypedProgram) (limits : Limits) (n : ℕ) (p q : Known Certificate) (base : ℕ) (end : End) {X : Type 0}
    (result : Result X FinishRefused) → IsPassAt c t limits n p → base ≡ length p.seen → EndMeets automaton_in t limits p.seen end → IsPassOf c q →
    ((h : List (Entry Certificate)) × (e : Option End) × WasAt p h e × MatchResult result
    (λ x. (finish_refusal e (length h) base ≡ None) × (length h ≡ base) × (q ≡ ending p h end))
    (λ r. (finish_refusal e (length h) base ≡ Some r.why) × (r.end ≡ end) × (q ≡ shown p h e))) → IsPassAt c t limits n q
finishes c t limits n p q base end (Ok x) a b m at s = ends c t limits n p q s.0 s.1 base end a s.2 s.3.1 b s.3.2 m at
finishes c t limits n p q base end (Err r) a b m at s = shows c t limits n p q s.0 s.1 a s.2 s.3.2 at

pub publishes : (c : Cell) (t : TypedProgram) (limits : Limits) (n : ℕ) (p q : Known Certificate) (base : ℕ) (entry : Entry Certificate)
    {X : Type 0} (R : List (Entry Certificate) → Option End → X → Type 0) (result : Result ℕ X) → IsPassAt c t limits n p → IsOwn t entry →
    IsPassOf c q → ((h : List (Entry Certificate)) (e : Option End) (r : X) → R h e r → q ≡ shown p h e) →
    ((h : List (Entry Certificate)) × (e : Option End) × WasAt p h e × MatchResult result
    (λ v. (publish_refusal e (length h) p.limit base ≡ None) × (v ≡ base + 1) × (length h ≡ base) × (q ≡ owning p h entry base))
    (R h e)) → IsPassAt c t limits n q
publishes c t limits n p q base entry R (Ok v) a own at refused s = owns c t limits n p q s.0 s.1 p.limit base entry a s.2 s.3.0 s.3.2 s.3.3 own at
publishes c t limits n p q base entry R (Err r) a own at refused s = shows c t limits n p q s.0 s.1 a s.2 (refused s.0 s.1 r s.3) at

-- a refusal as Ended tells that the pass has seen an end
pub ended_by_name : (q : Known Certificate) (why : Why) (k : EndKind) → Names q why → why ≡ Ended k → IsSome q.ended
ended_by_name q why k n e =
    let s : q.ended ≡ Some k = subst (λ (w : Why). Names q w) e n in subst (λ (s : Option EndKind). IsSome s) (sym s) refl

pub ended_by_ending : (p q : Known Certificate) (h : List (Entry Certificate)) (end : End) → q ≡ ending p h end → IsSome q.ended
ended_by_ending p q h end s = subst (λ (k : Known Certificate). IsSome k.ended) (sym s) refl

-- ---- a kept word

-- a kept word is one of the graph's automaton
pub error_word : (t : TypedProgram) (g : Graph) (l : Limits) (c : Cell) (p : Known Certificate) (version : ℕ) (left : Automaton)
    (w : List Letter) → IsJob t g l c → IsPassOf c p → IsAsSeen p version left → Accepts left w → Accepts g.automaton w
error_word t g l c p version left w j at seen a =
    subst (λ (x : Graph). Accepts x.automaton w) (sym j.lowered) (kept t g l c p version left w j at seen a).error

pub settled_own : (t : TypedProgram) (limits : Limits) (n : ℕ) (w : List Letter) (e : Entry Certificate) → SettlesWord t limits n w (Removed e) → IsOwn t e
settled_own t limits n w e s = subst (λ (v : List Letter). IsEvidence (lowered t) v e.evidence) (sym s.1) s.2

-- ---- shares

pub own_shares : (c : Cell) (t : TypedProgram) (limits : Limits) (n : ℕ) (p : Known Certificate) → IsPassAt c t limits n p → IsPassAt c t limits p.shares p
own_shares c t limits n p a = record { of_cell = a.of_cell; shares = refl; entries = a.entries; end = a.end }

pub with_shares : (c : Cell) (t : TypedProgram) (limits : Limits) (n m : ℕ) (p : Known Certificate) → IsPassAt c t limits n p → n ≡ m → IsPassAt c t limits m p
with_shares c t limits n m p a e = record { of_cell = a.of_cell; shares = a.shares ∙ e; entries = a.entries; end = a.end }

pub fresh_part : (c : Cell) (p q : Known Certificate) → q ≡ part_of_pass p → IsPassOf c q → IsFresh c 1 q
fresh_part c p q s of_cell = record {
  of_cell = of_cell;
  shares = ap (λ (k : Known Certificate). k.shares) s;
  entries = ap (λ (k : Known Certificate). k.own) s;
  end = ap (λ (k : Known Certificate). k.finish) s;
}
