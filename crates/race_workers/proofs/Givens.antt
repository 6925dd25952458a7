-- The entry with which a race begins, in the first pass and in the closed state.
use Rattle.std.proofs.Common.{◌≡◌, ℕ, suc, ◌<◌, ◌≤◌, List, [], ◌∷◌, ◌++◌, length, Option, None, Some, refl, sym, subst, ap, ◌∙◌, append_assoc, arith}
use Rattle.std.specs.Prelude.{IfSome, slice_get}
use Rattle.nwa_base.specs.Automata.{Automaton}
use Rattle.nwa_base.specs.Acceptance.{Accepts}
use Rattle.typed_tree.specs.TypedTree.{TypedProgram}
use Rattle.lowered_graph.specs.Lowered.{lowered}
use Rattle.race_core.specs.declared.ends.End.{End}
use Rattle.race_core.specs.declared.events.Entry.{Entry}
use Rattle.race_core.specs.Ends.{kind_of}
use Rattle.race_core.specs.Histories.{Keeps, IsFair}
use Rattle.race_core.specs.Races.{Race}
use Rattle.itp_automaton.specs.Certified.{Certificate}
use Rattle.race_workers.specs.KeptWords.Without.{IsWithout}
use Rattle.race_rounds.specs.declared.limits.Limits.{Limits}
use Rattle.race_rounds.specs.Ends.{EndMeets}
use Rattle.race_rounds.specs.Rounds.{automaton_in, IsOwn, IsGiven, AreOwn, IsRaceOf}
use Rattle.version_cell.specs.Counts.{times, once_below, Begins}
use Rattle.version_cell.specs.Views.{first_of}
use Rattle.version_cell.specs.Passes.{Cell, Known, IsPassOf, newcomer, owning, joined, Continues, IsClosed}
use Rattle.version_cell.proofs.Sums.{times_append}
use Rattle.race_workers.specs.Ties.Parts.{IsPassAt, opening_history, opened_with, with_one_share, HasRun}
use Rattle.race_workers.proofs.Lists.{get_begins, all_by_get}
use Rattle.race_workers.proofs.Published.{fair_by}

-- ---- the first pass

opened_seen : (given : Option (Entry Certificate)) (c : Cell) → (opened_with given (newcomer c)).seen ≡ opening_history given
opened_seen None c = refl
opened_seen (Some e) c = refl

opened_finish : (given : Option (Entry Certificate)) (c : Cell) → (opened_with given (newcomer c)).finish ≡ None
opened_finish None c = refl
opened_finish (Some e) c = refl

-- it owns no place behind the entry that is given
opened_own : (given : Option (Entry Certificate)) (c : Cell) (i : ℕ) → length (opening_history given) ≤ i → times i (opened_with given (newcomer c)).own ≡ 0
opened_own None c i le = refl
opened_own (Some e) c i le = grind arith

opened_with_all : (given : Option (Entry Certificate)) (c : Cell) → (opened_with given (newcomer c)).shares ≡ c.shares
opened_with_all None c = refl
opened_with_all (Some e) c = refl

pub opened_shares : (given : Option (Entry Certificate)) (c : Cell) (p q : Known Certificate) (n : ℕ) → p ≡ newcomer c → q ≡ opened_with given p → c.shares ≡ n →
    q.shares ≡ n
opened_shares given c p q n first s e =
    ap (λ (k : Known Certificate). k.shares) s
    ∙ (ap (λ (k : Known Certificate). (opened_with given k).shares) first ∙ (opened_with_all given c ∙ e))

-- a program keeps all its words behind an empty history
keeps_all : (program : Automaton) → Keeps automaton_in program [] program
keeps_all program w = (λ a. (a, λ r. r), λ a. a.0)

-- the entry that is given may be published as the first
pub fair_first : (c : Cell) (p : Known Certificate) (program read next : Automaton) (e : Entry Certificate) → p ≡ newcomer c → c.program ≡ program → read ≡ program →
    Accepts program e.word → Accepts (automaton_in e.evidence) e.word → IsWithout read (automaton_in e.evidence) next → IsFair automaton_in p.program p.seen 0 e next
fair_first c p program read next e first same is a own w =
    subst (λ (k : Known Certificate). IsFair automaton_in k.program k.seen 0 e next) (sym first)
    (subst (λ (m : Automaton). IsFair automaton_in m [] 0 e next) (sym same)
    (fair_by automaton_in program program read (automaton_in e.evidence) next next [] e 0 is refl refl refl (keeps_all program) a own w))

-- what is known of the entry that is given
pub known_of : {X : Type 0} (P : X → Type 0) (o : Option X) (x : X) → o ≡ Some x → IfSome o P → P x
known_of {X = X} P o x is h = subst (λ (a : Option X). IfSome a P) is h

no_entry : (h : List (Entry Certificate)) → length h ≡ 0 → h ≡ []
no_entry [] e = refl
no_entry (x ∷ h) e = absurd (omega (arith, e))

-- the entry that is given was added to an empty history
pub opened : (given : Option (Entry Certificate)) (p q : Known Certificate) (h : List (Entry Certificate)) (e : Entry Certificate) → given ≡ Some e → length h ≡ 0 →
    q ≡ owning p h e 0 → q ≡ opened_with given p
opened given p q h e is none s =
    s ∙ ap (λ (l : List (Entry Certificate)). owning p l e 0) (no_entry h none) ∙ sym (ap (λ (o : Option (Entry Certificate)). opened_with o p) is)

pub only_words : (t : TypedProgram) (program : Automaton) (given : Option (Entry Certificate)) → IfSome given (λ e. Accepts program e.word × IsGiven t e) →
    IfSome given (λ e. Accepts program e.word × Accepts (automaton_in e.evidence) e.word)
only_words t program None h = tt
only_words t program (Some e) h = (h.0, h.1.own)

pub only_given : (t : TypedProgram) (program : Automaton) (given : Option (Entry Certificate)) → IfSome given (λ e. Accepts program e.word × IsGiven t e) →
    IfSome given (IsGiven t)
only_given t program None h = tt
only_given t program (Some e) h = h.1

-- ---- the pass behind the workers

pub has_run : (c : Cell) (t : TypedProgram) (limits : Limits) (n : ℕ) (p m w q : Known Certificate) → m ≡ with_one_share p → IsPassAt c t limits n w →
    q ≡ joined m w → Continues m q → Continues w q → IsPassOf c q → HasRun c t limits n p q
has_run c t limits n p m w q one at s first second of_cell =
    record {
      workers = w;
      at = at;
      both = s ∙ ap (λ (k : Known Certificate). joined k w) one;
      first = subst (λ (k : Known Certificate). Continues k q) one first;
      second = second;
      of_cell = of_cell;
    }

-- ---- the closed state

begins_then : {X : Type 0} (a b c : List X) → Begins a b → Begins b c → Begins a c
begins_then {X = X} a b c s t = (s.0 ++ t.0, t.1 ∙ (ap (λ (l : List X). l ++ t.0) s.1 ∙ append_assoc a s.0 t.0))

-- the members from this place on are the workers'
abbrev OwnFrom : TypedProgram → ℕ → List (Entry Certificate) → Type 0
OwnFrom t n h = (i : ℕ) → n ≤ i → i < length h → (x : Entry Certificate) × (slice_get h i ≡ Some x) × IsOwn t x

are_own : (t : TypedProgram) (given : Option (Entry Certificate)) (h : List (Entry Certificate)) → Begins (opening_history given) h → IfSome given (IsGiven t) →
    OwnFrom t (length (opening_history given)) h → AreOwn t given h
are_own t None h s g each = all_by_get (IsOwn t) h (λ i b. each i (omega arith) b)
are_own t (Some e) h s g each =
    subst (λ (l : List (Entry Certificate)). OwnFrom t 1 l → AreOwn t (Some e) l) (sym s.1)
    (λ from. (refl, g, all_by_get (IsOwn t) s.0 (λ i b. from (suc i) (omega arith) (omega (arith, b))))) each

end_met : (M : End → Type 0) (f : Option End) → ((e : End) → f ≡ Some e → M e) → IfSome f M
end_met M None each = tt
end_met M (Some e) each = each e refl

once_there : (i n : ℕ) → i < n → once_below i n ≡ 1
once_there i n b = grind arith

-- the closed state is a race of the program, which begins with the entry that was given
pub closes : (c : Cell) (t : TypedProgram) (limits : Limits) (n : ℕ) (given : Option (Entry Certificate)) (f p q : Known Certificate) (s : Race Certificate) →
    f ≡ newcomer c → p ≡ opened_with given f → HasRun c t limits n p q → IsClosed q s → IfSome given (IsGiven t) → c.program ≡ (lowered t).automaton →
    c.limit ≡ limits.rounds → length s.history ≤ s.limit → IsRaceOf t given limits s
closes c t limits n given f p q s first o d x g program limit room =
    let w = d.workers in
    let is : p ≡ opened_with given (newcomer c) = o ∙ ap (opened_with given) first in
    let seen : p.seen ≡ opening_history given = ap (λ (k : Known Certificate). k.seen) is ∙ opened_seen given c in
    let open_ : p.finish ≡ None = ap (λ (k : Known Certificate). k.finish) is ∙ opened_finish given c in
    let own : q.own ≡ p.own ++ w.own = ap (λ (k : Known Certificate). k.own) d.both in
    let finish : q.finish ≡ w.finish = ap (λ (k : Known Certificate). k.finish) d.both ∙ ap (λ (a : Option End). first_of a w.finish) open_ in
    let begins : Begins (opening_history given) s.history =
    subst (λ (l : List (Entry Certificate)). Begins l s.history) seen (begins_then p.seen q.seen s.history d.first.0 x.seen) in
    record {
      program = x.program ∙ d.of_cell.program ∙ program;
      limit = x.limit ∙ d.of_cell.limit ∙ limit;
      within = let l = x.limit ∙ d.of_cell.limit ∙ limit in omega (arith, room, l);
      own = are_own t given s.history begins g (λ i le b.
          let once : times i q.own ≡ 1 = x.own i ∙ once_there i (length s.history) b in
          let both = ap (times i) own ∙ times_append i p.own w.own in
          let none = ap (λ (k : Known Certificate). times i k.own) is ∙ opened_own given c i le in
          let z = d.at.entries i (omega (arith, once, both, none)) in
          (z.0, get_begins q.seen s.history i z.0 x.seen (get_begins w.seen q.seen i z.0 d.second.0 z.1), z.2));
      end = subst (λ (o : Option End). IfSome o (EndMeets automaton_in t limits s.history)) (sym x.end)
          (end_met (EndMeets automaton_in t limits s.history) q.finish (λ e y.
          let z = d.at.end e (sym finish ∙ y) in
          let k = d.second.1 (kind_of e) z.0 in
          subst (λ (l : List (Entry Certificate)). EndMeets automaton_in t limits l e) (k.0 ∙ sym (x.ended (kind_of e) k.1).1) z.1));
    }
