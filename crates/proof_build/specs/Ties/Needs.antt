-- The triples that the steps of an unwinding need, by the numbers of their predicates.
use Rattle.std.specs.Prelude.{◌≡◌, ◌⊎◌, ℕ, List}
use Rattle.nwa_base.specs.declared.letters.Letter.{Letter}
use Rattle.nwa_base.specs.Members.{Member}
use Rattle.nwa_base.specs.Automata.{Automaton}
use Rattle.proof_names.specs.declared.outlines.Listed.{Listed}
use Rattle.proof_names.specs.declared.outlines.Listed.TheVariants.{Inside, Call, Back}
use Rattle.proof_names.specs.Outlines.{OutlineNode}
use Rattle.proof_build.specs.ProofUnwind.Unwindings.{node_at}
use Rattle.proof_build.specs.Unwindings.{steps_of}
use Rattle.proof_build.specs.Sketches.{IsUsed}

-- the numbers of a triple, by its source, its letter and its target
abbrev pub Numbers : Type 0
Numbers = ℕ → ℕ → ℕ → Listed

abbrev pub inside_numbers : Numbers
inside_numbers q l r = Inside q l r

abbrev pub call_numbers : Numbers
call_numbers q l r = Call q l r

-- the predicate is true, or one of these
abbrev pub IsAmong : List ℕ → ℕ → Type 0
IsAmong preds q = (q ≡ 0) ⊎ Member preds q

-- ---- what one predicate needs

-- an edge by the letter leads to the predicate from true or from one of those before
abbrev pub Leads : List (ℕ × Letter × ℕ) → List ℕ → Letter → ℕ → Type 0
Leads edges before a r = (q : ℕ) × Member edges (q, a, r) × IsAmong before q

abbrev pub BackLeads : List (ℕ × ℕ × Letter × ℕ) → List ℕ → List ℕ → Letter → ℕ → Type 0
BackLeads edges exit before a r = (q : ℕ) × (p : ℕ) × Member edges (q, p, a, r) × IsAmong exit q × IsAmong before p

-- and the triple of such an edge is noted
pub record IsNoted (edges : List (ℕ × Letter × ℕ)) (numbers : Numbers) (noted : List Listed) (before : List ℕ) (a : Letter) (r : ℕ) : Type 0 where
  pub source : ℕ
  pub edge : Member edges (source, a, r)
  pub has : IsAmong before source
  pub listed : Member noted (numbers source a.id r)

pub record IsBackNoted (edges : List (ℕ × ℕ × Letter × ℕ)) (noted : List Listed) (exit before : List ℕ) (a : Letter) (r : ℕ) : Type 0 where
  pub source : ℕ
  pub caller : ℕ
  pub edge : Member edges (source, caller, a, r)
  pub has : IsAmong exit source
  pub called : IsAmong before caller
  pub listed : Member noted (Back source caller a.id r)

-- ---- what one step needs

-- the triple leads by the letter from true or a predicate before to one after
pub record IsUse (numbers : Numbers) (before : List ℕ) (a : Letter) (after : List ℕ) (t : Listed) : Type 0 where
  pub source : ℕ
  pub target : ℕ
  pub is : t ≡ numbers source a.id target
  pub has : IsAmong before source
  pub ends : Member after target

pub record IsBackUse (exit before : List ℕ) (a : Letter) (after : List ℕ) (t : Listed) : Type 0 where
  pub source : ℕ
  pub caller : ℕ
  pub target : ℕ
  pub is : t ≡ Back source caller a.id target
  pub has : IsAmong exit source
  pub called : IsAmong before caller
  pub ends : Member after target

-- for each predicate after the letter to which an edge leads the triple of one is noted, and only such triples are
pub record NotesAll (edges : List (ℕ × Letter × ℕ)) (numbers : Numbers) (before : List ℕ) (a : Letter) (after : List ℕ) (old new : List Listed) : Type 0 where
  pub kept : (t : Listed) → Member old t → Member new t
  pub used : (t : Listed) → Member new t → Member old t ⊎ IsUse numbers before a after t
  pub all : (r : ℕ) → Member after r → Leads edges before a r → IsNoted edges numbers new before a r

pub record NotesBacks (edges : List (ℕ × ℕ × Letter × ℕ)) (exit before : List ℕ) (a : Letter) (after : List ℕ) (old new : List Listed) : Type 0 where
  pub kept : (t : Listed) → Member old t → Member new t
  pub used : (t : Listed) → Member new t → Member old t ⊎ IsBackUse exit before a after t
  pub all : (r : ℕ) → Member after r → BackLeads edges exit before a r → IsBackNoted edges new exit before a r

-- ---- what all steps need

-- the triple is one that a step needs
pub record IsUseIn (numbers : Numbers) (nodes : List OutlineNode) (steps : List (ℕ × Letter × ℕ)) (t : Listed) : Type 0 where
  pub before : ℕ
  pub letter : Letter
  pub after : ℕ
  pub step : Member steps (before, letter, after)
  pub uses : IsUse numbers (node_at nodes before).preds letter (node_at nodes after).preds t

pub record IsBackUseIn (nodes : List OutlineNode) (steps : List (ℕ × ℕ × Letter × ℕ)) (t : Listed) : Type 0 where
  pub exit : ℕ
  pub before : ℕ
  pub letter : Letter
  pub after : ℕ
  pub step : Member steps (exit, before, letter, after)
  pub uses : IsBackUse (node_at nodes exit).preds (node_at nodes before).preds letter (node_at nodes after).preds t

-- for each step and each predicate of its end to which an edge leads the triple of one is noted, and only such triples are
pub record NotesSteps (edges : List (ℕ × Letter × ℕ)) (numbers : Numbers) (nodes : List OutlineNode) (steps : List (ℕ × Letter × ℕ)) (old new : List Listed) : Type 0 where
  pub kept : (t : Listed) → Member old t → Member new t
  pub used : (t : Listed) → Member new t → Member old t ⊎ IsUseIn numbers nodes steps t
  pub all : (n : ℕ) (a : Letter) (k : ℕ) → Member steps (n, a, k) → (r : ℕ) → Member (node_at nodes k).preds r → Leads edges (node_at nodes n).preds a r →
      IsNoted edges numbers new (node_at nodes n).preds a r

pub record NotesBackSteps (edges : List (ℕ × ℕ × Letter × ℕ)) (nodes : List OutlineNode) (steps : List (ℕ × ℕ × Letter × ℕ)) (old new : List Listed) : Type 0 where
  pub kept : (t : Listed) → Member old t → Member new t
  pub used : (t : Listed) → Member new t → Member old t ⊎ IsBackUseIn nodes steps t
  pub all : (x c : ℕ) (a : Letter) (k : ℕ) → Member steps (x, c, a, k) → (r : ℕ) → Member (node_at nodes k).preds r →
      BackLeads edges (node_at nodes x).preds (node_at nodes c).preds a r → IsBackNoted edges new (node_at nodes x).preds (node_at nodes c).preds a r

-- of a union and an unwinding by it: the triples of some of its edges, all of which steps use
pub record AreNeeded (union : Automaton) (nodes : List OutlineNode) (s : Automaton) (noted : List Listed) : Type 0 where
  pub used : (t : Listed) → Member noted t → IsUsed (steps_of s) nodes t
  pub insides : (n : ℕ) (a : Letter) (k : ℕ) → Member s.insides (n, a, k) → (r : ℕ) → Member (node_at nodes k).preds r → Leads union.insides (node_at nodes n).preds a r →
      IsNoted union.insides inside_numbers noted (node_at nodes n).preds a r
  pub calls : (n : ℕ) (a : Letter) (k : ℕ) → Member s.calls (n, a, k) → (r : ℕ) → Member (node_at nodes k).preds r → Leads union.calls (node_at nodes n).preds a r →
      IsNoted union.calls call_numbers noted (node_at nodes n).preds a r
  pub backs : (x c : ℕ) (a : Letter) (k : ℕ) → Member s.backs (x, c, a, k) → (r : ℕ) → Member (node_at nodes k).preds r →
      BackLeads union.backs (node_at nodes x).preds (node_at nodes c).preds a r → IsBackNoted union.backs noted (node_at nodes x).preds (node_at nodes c).preds a r
