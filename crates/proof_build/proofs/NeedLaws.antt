-- What steps need is noted, predicate by predicate and step by step.
use Rattle.std.proofs.Common.{◌≡◌, ◌∙◌, ℕ, zero, suc, Option, None, Some, ap, ◌+◌, ◌<◌, Bool, true, false, ◌⊎◌, ◌↔◌, List, [], ◌∷◌, length, take, get_or, refl, sym, subst, inl, inr}
use Rattle.std.specs.Prelude.{IsTrue, MatchOption, slice_get}
use Rattle.std.proofs.lemmas.Bool.{false≢true}
use Rattle.std.proofs.lemmas.List.{take_more}
use Rattle.nwa_base.specs.declared.letters.Letter.{Letter}
use Rattle.nwa_base.specs.Members.{Member}
use Rattle.nwa_base.specs.Automata.{Automaton}
use Rattle.nwa_base.proofs.MemberLemmas.{member_front, member_rest, member_split, member_at}
use Rattle.proof_names.specs.declared.outlines.Listed.{Listed}
use Rattle.proof_names.specs.declared.outlines.Listed.TheVariants.{Back}
use Rattle.proof_names.specs.declared.outlines.NamedStep.TheVariants as steps
use Rattle.proof_names.specs.Outlines.{OutlineNode}
use Rattle.proof_build.specs.declared.proof_unwind.spots.Spot.{Spot}
use Rattle.proof_build.specs.ProofUnwind.Spots.{nodes_of}
use Rattle.proof_build.specs.ProofUnwind.Unwindings.{node_at}
use Rattle.proof_build.specs.Unwindings.{steps_of}
use Rattle.proof_build.specs.Sketches.{IsUsed}
use Rattle.proof_build.specs.Ties.Noted.{IsInserted}
use Rattle.proof_build.specs.Ties.Needs.{Numbers, inside_numbers, call_numbers, IsAmong, Leads, BackLeads, IsNoted, IsBackNoted, IsUse, IsBackUse, NotesAll, NotesBacks, IsUseIn, IsBackUseIn, NotesSteps, NotesBackSteps, AreNeeded}
use Rattle.proof_build.proofs.WordLaws.{node_is}
use Rattle.proof_build.proofs.ReachLaws.{inside_step_in, call_step_in, back_step_in}

-- ---- lists so far

-- one member more
next_is : {X : Type 0} (xs : List X) (i : ℕ) (d x : X) → i < length xs → Member (take (i + 1) xs) x → Member (take i xs) x ⊎ (get_or xs i d ≡ x)
next_is xs i d x l m = elim (member_split (take i xs) (get_or xs i d ∷ []) x (subst (λ (ys : List _). Member ys x) (take_more xs i d l) m)) [
  | inl k ↦ inl k
  | inr k ↦ elim k [ inl e ↦ inr e | inr none ↦ absurd none ]
]

next_here : {X : Type 0} (xs : List X) (i : ℕ) (d : X) → i < length xs → Member (take (i + 1) xs) (get_or xs i d)
next_here xs i d l = subst (λ (ys : List _). Member ys (get_or xs i d)) (sym (take_more xs i d l)) (member_rest (take i xs) (get_or xs i d ∷ []) (get_or xs i d) (inl refl))

next_front : {X : Type 0} (xs : List X) (i : ℕ) (d x : X) → i < length xs → Member (take i xs) x → Member (take (i + 1) xs) x
next_front xs i d x l m = subst (λ (ys : List _). Member ys x) (sym (take_more xs i d l)) (member_front (take i xs) (get_or xs i d ∷ []) x m)

-- ---- the predicates of a node

pub preds_there : (nodes : List OutlineNode) (n : ℕ) (x : OutlineNode) → slice_get nodes n ≡ Some x → x.preds ≡ (node_at nodes n).preds
preds_there nodes n x e = sym (ap (λ (y : OutlineNode). y.preds) (node_is nodes n x e))

pub no_preds : (nodes : List OutlineNode) (n : ℕ) → slice_get nodes n ≡ None → [] ≡ (node_at nodes n).preds
no_preds [] n e = refl
no_preds (x ∷ nodes) zero e = absurd (cc)
no_preds (x ∷ nodes) (suc n) e = no_preds nodes n e

-- ---- the first source

pub some_of : {X : Type 0} (o : Option X) (x : X) (P : Type 0) (Q : X → Type 0) → o ≡ Some x → MatchOption o P Q → Q x
some_of o x P Q e h = subst (λ (y : Option _). MatchOption y P Q) e h

pub none_of : {X : Type 0} (o : Option X) (P : Type 0) (Q : X → Type 0) → o ≡ None → MatchOption o P Q → P
none_of o P Q e h = subst (λ (y : Option _). MatchOption y P Q) e h

pub not_so : (b : Bool) (P : Type 0) → IsTrue b ↔ P → b ≡ false → P → ⊥
not_so b P h e p = false≢true (sym e ∙ h.1 p)

pub none_more : (E : ℕ → Type 0) (xs : List ℕ) (i : ℕ) → i < length xs → ((q : ℕ) → Member (take i xs) q → E q → ⊥) → (E (get_or xs i 0) → ⊥) → (q : ℕ) → Member (take (i + 1) xs) q → E q → ⊥
none_more E xs i l f g q m e = elim (next_is xs i 0 q l m) [ inl k ↦ f q k e | inr k ↦ g (subst E (sym k) e) ]

pub item_among : (xs : List ℕ) (i : ℕ) → i < length xs → IsAmong xs (get_or xs i 0)
item_among xs i l = inr (member_at xs i 0 l)

-- ---- what is inserted

inserted_kept : (old : List Listed) (t : Listed) (b : Bool) (new : List Listed) → IsInserted old t b new → (x : Listed) → Member old x → Member new x
inserted_kept old t true new h x m = subst (λ (l : List Listed). Member l x) (sym h.1) (member_front old (t ∷ []) x m)
inserted_kept old t false new h x m = subst (λ (l : List Listed). Member l x) (sym h.1) m

inserted_has : (old : List Listed) (t : Listed) (b : Bool) (new : List Listed) → IsInserted old t b new → Member new t
inserted_has old t true new h = subst (λ (l : List Listed). Member l t) (sym h.1) (member_rest old (t ∷ []) t (inl refl))
inserted_has old t false new h = subst (λ (l : List Listed). Member l t) (sym h.1) h.0

inserted_only : (old : List Listed) (t : Listed) (b : Bool) (new : List Listed) → IsInserted old t b new → (x : Listed) → Member new x → Member old x ⊎ (t ≡ x)
inserted_only old t true new h x m = elim (member_split old (t ∷ []) x (subst (λ (l : List Listed). Member l x) h.1 m)) [
  | inl k ↦ inl k
  | inr k ↦ elim k [ inl e ↦ inr e | inr none ↦ absurd none ]
]
inserted_only old t false new h x m = inl (subst (λ (l : List Listed). Member l x) h.1 m)

-- ---- one predicate more

pub noted_none : (edges : List (ℕ × Letter × ℕ)) (numbers : Numbers) (before : List ℕ) (a : Letter) (old : List Listed) → NotesAll edges numbers before a [] old old
noted_none edges numbers before a old = record { kept = λ t m. m; used = λ t m. inl m; all = λ r m f. absurd m }

use_more : (numbers : Numbers) (before : List ℕ) (a : Letter) (after : List ℕ) (i : ℕ) (t : Listed) → i < length after → IsUse numbers before a (take i after) t → IsUse numbers before a (take (i + 1) after) t
use_more numbers before a after i t l u = record { source = u.source; target = u.target; is = u.is; has = u.has; ends = next_front after i 0 u.target l u.ends }

still_noted : (edges : List (ℕ × Letter × ℕ)) (numbers : Numbers) (old new : List Listed) (before : List ℕ) (a : Letter) (r : ℕ) → ((t : Listed) → Member old t → Member new t) →
    IsNoted edges numbers old before a r → IsNoted edges numbers new before a r
still_noted edges numbers old new before a r f n = record { source = n.source; edge = n.edge; has = n.has; listed = f (numbers n.source a.id r) n.listed }

pub noted_more : (edges : List (ℕ × Letter × ℕ)) (numbers : Numbers) (before : List ℕ) (a : Letter) (after : List ℕ) (i q : ℕ) (b : Bool) (old mid new : List Listed) → i < length after →
    NotesAll edges numbers before a (take i after) old mid → Member edges (q, a, get_or after i 0) × IsAmong before q → IsInserted mid (numbers q a.id (get_or after i 0)) b new →
    NotesAll edges numbers before a (take (i + 1) after) old new
noted_more edges numbers before a after i q b old mid new l h e s = record {
  kept = λ t m. inserted_kept mid (numbers q a.id (get_or after i 0)) b new s t (h.kept t m);
  used = λ t m. elim (inserted_only mid (numbers q a.id (get_or after i 0)) b new s t m) [
    | inl k ↦ elim (h.used t k) [ inl o ↦ inl o | inr u ↦ inr (use_more numbers before a after i t l u) ]
    | inr k ↦ inr (record { source = q; target = get_or after i 0; is = sym k; has = e.1; ends = next_here after i 0 l })
  ];
  all = λ r m f. elim (next_is after i 0 r l m) [
    | inl k ↦ still_noted edges numbers mid new before a r (inserted_kept mid (numbers q a.id (get_or after i 0)) b new s) (h.all r k f)
    | inr k ↦ subst (λ (x : ℕ). IsNoted edges numbers new before a x) k
        (record { source = q; edge = e.0; has = e.1; listed = inserted_has mid (numbers q a.id (get_or after i 0)) b new s })
  ];
}

-- to which no edge leads
pub noted_still : (edges : List (ℕ × Letter × ℕ)) (numbers : Numbers) (before : List ℕ) (a : Letter) (after : List ℕ) (i : ℕ) (old mid : List Listed) → i < length after →
    NotesAll edges numbers before a (take i after) old mid → (Leads edges before a (get_or after i 0) → ⊥) → NotesAll edges numbers before a (take (i + 1) after) old mid
noted_still edges numbers before a after i old mid l h n = record {
  kept = h.kept;
  used = λ t m. elim (h.used t m) [ inl o ↦ inl o | inr u ↦ inr (use_more numbers before a after i t l u) ];
  all = λ r m f. elim (next_is after i 0 r l m) [
    | inl k ↦ h.all r k f
    | inr k ↦ absurd (n (subst (λ (x : ℕ). Leads edges before a x) (sym k) f))
  ];
}

pub backs_none : (edges : List (ℕ × ℕ × Letter × ℕ)) (exit before : List ℕ) (a : Letter) (old : List Listed) → NotesBacks edges exit before a [] old old
backs_none edges exit before a old = record { kept = λ t m. m; used = λ t m. inl m; all = λ r m f. absurd m }

back_use_more : (exit before : List ℕ) (a : Letter) (after : List ℕ) (i : ℕ) (t : Listed) → i < length after → IsBackUse exit before a (take i after) t → IsBackUse exit before a (take (i + 1) after) t
back_use_more exit before a after i t l u = record {
  source = u.source;
  caller = u.caller;
  target = u.target;
  is = u.is;
  has = u.has;
  called = u.called;
  ends = next_front after i 0 u.target l u.ends;
}

still_back_noted : (edges : List (ℕ × ℕ × Letter × ℕ)) (old new : List Listed) (exit before : List ℕ) (a : Letter) (r : ℕ) → ((t : Listed) → Member old t → Member new t) →
    IsBackNoted edges old exit before a r → IsBackNoted edges new exit before a r
still_back_noted edges old new exit before a r f n = record {
  source = n.source;
  caller = n.caller;
  edge = n.edge;
  has = n.has;
  called = n.called;
  listed = f (Back n.source n.caller a.id r) n.listed;
}

pub backs_more : (edges : List (ℕ × ℕ × Letter × ℕ)) (exit before : List ℕ) (a : Letter) (after : List ℕ) (i q p : ℕ) (b : Bool) (old mid new : List Listed) → i < length after →
    NotesBacks edges exit before a (take i after) old mid → Member edges (q, p, a, get_or after i 0) × IsAmong exit q × IsAmong before p → IsInserted mid (Back q p a.id (get_or after i 0)) b new →
    NotesBacks edges exit before a (take (i + 1) after) old new
backs_more edges exit before a after i q p b old mid new l h e s = record {
  kept = λ t m. inserted_kept mid (Back q p a.id (get_or after i 0)) b new s t (h.kept t m);
  used = λ t m. elim (inserted_only mid (Back q p a.id (get_or after i 0)) b new s t m) [
    | inl k ↦ elim (h.used t k) [ inl o ↦ inl o | inr u ↦ inr (back_use_more exit before a after i t l u) ]
    | inr k ↦ inr (record { source = q; caller = p; target = get_or after i 0; is = sym k; has = e.1; called = e.2; ends = next_here after i 0 l })
  ];
  all = λ r m f. elim (next_is after i 0 r l m) [
    | inl k ↦ still_back_noted edges mid new exit before a r (inserted_kept mid (Back q p a.id (get_or after i 0)) b new s) (h.all r k f)
    | inr k ↦ subst (λ (x : ℕ). IsBackNoted edges new exit before a x) k
        (record { source = q; caller = p; edge = e.0; has = e.1; called = e.2; listed = inserted_has mid (Back q p a.id (get_or after i 0)) b new s })
  ];
}

pub backs_still : (edges : List (ℕ × ℕ × Letter × ℕ)) (exit before : List ℕ) (a : Letter) (after : List ℕ) (i : ℕ) (old mid : List Listed) → i < length after →
    NotesBacks edges exit before a (take i after) old mid → (BackLeads edges exit before a (get_or after i 0) → ⊥) → NotesBacks edges exit before a (take (i + 1) after) old mid
backs_still edges exit before a after i old mid l h n = record {
  kept = h.kept;
  used = λ t m. elim (h.used t m) [ inl o ↦ inl o | inr u ↦ inr (back_use_more exit before a after i t l u) ];
  all = λ r m f. elim (next_is after i 0 r l m) [
    | inl k ↦ h.all r k f
    | inr k ↦ absurd (n (subst (λ (x : ℕ). BackLeads edges exit before a x) (sym k) f))
  ];
}

-- ---- one step more

pub steps_none : (edges : List (ℕ × Letter × ℕ)) (numbers : Numbers) (nodes : List OutlineNode) (old : List Listed) → NotesSteps edges numbers nodes [] old old
steps_none edges numbers nodes old = record { kept = λ t m. m; used = λ t m. inl m; all = λ n a k e r m f. absurd e }

-- what the next step needs is noted
pub steps_more : (edges : List (ℕ × Letter × ℕ)) (numbers : Numbers) (nodes : List OutlineNode) (ss : List (ℕ × Letter × ℕ)) (i : ℕ) (d : ℕ × Letter × ℕ) (before after : List ℕ) (old mid new : List Listed) →
    i < length ss → NotesSteps edges numbers nodes (take i ss) old mid → before ≡ (node_at nodes (get_or ss i d).0).preds → after ≡ (node_at nodes (get_or ss i d).2).preds →
    NotesAll edges numbers before (get_or ss i d).1 after mid new → NotesSteps edges numbers nodes (take (i + 1) ss) old new
steps_more edges numbers nodes ss i d before after old mid new l h be af n =
    let s : ℕ × Letter × ℕ = get_or ss i d in
    let k : NotesAll edges numbers (node_at nodes s.0).preds s.1 (node_at nodes s.2).preds mid new =
    subst (λ (x : List ℕ). NotesAll edges numbers x s.1 (node_at nodes s.2).preds mid new) be (subst (λ (x : List ℕ). NotesAll edges numbers before s.1 x mid new) af n) in
    record {
      kept = λ t m. k.kept t (h.kept t m);
      used = λ t m. elim (k.used t m) [
        | inl o ↦ elim (h.used t o) [
          | inl p ↦ inl p
          | inr u ↦ inr (record { before = u.before; letter = u.letter; after = u.after; step = next_front ss i d (u.before, u.letter, u.after) l u.step; uses = u.uses })
        ]
        | inr u ↦ inr (record { before = s.0; letter = s.1; after = s.2; step = next_here ss i d l; uses = u })
      ];
      all = λ x a y e r m f. elim (next_is ss i d (x, a, y) l e) [
        | inl o ↦ still_noted edges numbers mid new (node_at nodes x).preds a r k.kept (h.all x a y o r m f)
        | inr o ↦ one_step x a y o r k m f
      ];
    }
  where
    one_step : (x : ℕ) (a : Letter) (y : ℕ) → get_or ss i d ≡ (x, a, y) → (r : ℕ) →
        NotesAll edges numbers (node_at nodes (get_or ss i d).0).preds (get_or ss i d).1 (node_at nodes (get_or ss i d).2).preds mid new → Member (node_at nodes y).preds r →
        Leads edges (node_at nodes x).preds a r → IsNoted edges numbers new (node_at nodes x).preds a r
    one_step x a y o r k m f =
        let j : NotesAll edges numbers (node_at nodes x).preds a (node_at nodes y).preds mid new =
        subst (λ (t : ℕ × Letter × ℕ). NotesAll edges numbers (node_at nodes t.0).preds t.1 (node_at nodes t.2).preds mid new) o k in
        j.all r m f

pub back_steps_none : (edges : List (ℕ × ℕ × Letter × ℕ)) (nodes : List OutlineNode) (old : List Listed) → NotesBackSteps edges nodes [] old old
back_steps_none edges nodes old = record { kept = λ t m. m; used = λ t m. inl m; all = λ x c a k e r m f. absurd e }

pub back_steps_more : (edges : List (ℕ × ℕ × Letter × ℕ)) (nodes : List OutlineNode) (ss : List (ℕ × ℕ × Letter × ℕ)) (i : ℕ) (d : ℕ × ℕ × Letter × ℕ) (exit before after : List ℕ) (old mid new : List Listed) →
    i < length ss → NotesBackSteps edges nodes (take i ss) old mid → exit ≡ (node_at nodes (get_or ss i d).0).preds → before ≡ (node_at nodes (get_or ss i d).1).preds →
    after ≡ (node_at nodes (get_or ss i d).3).preds → NotesBacks edges exit before (get_or ss i d).2 after mid new → NotesBackSteps edges nodes (take (i + 1) ss) old new
back_steps_more edges nodes ss i d exit before after old mid new l h ex be af n =
    let s : ℕ × ℕ × Letter × ℕ = get_or ss i d in
    let k : NotesBacks edges (node_at nodes s.0).preds (node_at nodes s.1).preds s.2 (node_at nodes s.3).preds mid new =
    subst (λ (x : List ℕ). NotesBacks edges x (node_at nodes s.1).preds s.2 (node_at nodes s.3).preds mid new) ex
    (subst (λ (x : List ℕ). NotesBacks edges exit x s.2 (node_at nodes s.3).preds mid new) be (subst (λ (x : List ℕ). NotesBacks edges exit before s.2 x mid new) af n)) in
    record {
      kept = λ t m. k.kept t (h.kept t m);
      used = λ t m. elim (k.used t m) [
        | inl o ↦ elim (h.used t o) [
          | inl p ↦ inl p
          | inr u ↦ inr (record {
            exit = u.exit;
            before = u.before;
            letter = u.letter;
            after = u.after;
            step = next_front ss i d (u.exit, u.before, u.letter, u.after) l u.step;
            uses = u.uses;
          })
        ]
        | inr u ↦ inr (record { exit = s.0; before = s.1; letter = s.2; after = s.3; step = next_here ss i d l; uses = u })
      ];
      all = λ x c a y e r m f. elim (next_is ss i d (x, c, a, y) l e) [
        | inl o ↦ still_back_noted edges mid new (node_at nodes x).preds (node_at nodes c).preds a r k.kept (h.all x c a y o r m f)
        | inr o ↦ one_step x c a y o r k m f
      ];
    }
  where
    one_step : (x c : ℕ) (a : Letter) (y : ℕ) → get_or ss i d ≡ (x, c, a, y) → (r : ℕ) →
        NotesBacks edges (node_at nodes (get_or ss i d).0).preds (node_at nodes (get_or ss i d).1).preds (get_or ss i d).2 (node_at nodes (get_or ss i d).3).preds mid new →
        Member (node_at nodes y).preds r → BackLeads edges (node_at nodes x).preds (node_at nodes c).preds a r → IsBackNoted edges new (node_at nodes x).preds (node_at nodes c).preds a r
    one_step x c a y o r k m f =
        let j : NotesBacks edges (node_at nodes x).preds (node_at nodes c).preds a (node_at nodes y).preds mid new =
        subst (λ (t : ℕ × ℕ × Letter × ℕ). NotesBacks edges (node_at nodes t.0).preds (node_at nodes t.1).preds t.2 (node_at nodes t.3).preds mid new) o k in
        j.all r m f

-- ---- all together

inside_used : (nodes : List OutlineNode) (s : Automaton) (t : Listed) → IsUseIn inside_numbers nodes s.insides t → IsUsed (steps_of s) nodes t
inside_used nodes s t u = subst (λ (x : Listed). IsUsed (steps_of s) nodes x) (sym u.uses.is)
    (steps.Step u.before u.letter.id u.after, inside_step_in s u.before u.letter u.after u.step, (refl, u.uses.has, u.uses.ends))

call_used : (nodes : List OutlineNode) (s : Automaton) (t : Listed) → IsUseIn call_numbers nodes s.calls t → IsUsed (steps_of s) nodes t
call_used nodes s t u = subst (λ (x : Listed). IsUsed (steps_of s) nodes x) (sym u.uses.is)
    (steps.Step u.before u.letter.id u.after, call_step_in s u.before u.letter u.after u.step, (refl, u.uses.has, u.uses.ends))

back_used : (nodes : List OutlineNode) (s : Automaton) (t : Listed) → IsBackUseIn nodes s.backs t → IsUsed (steps_of s) nodes t
back_used nodes s t u = subst (λ (x : Listed). IsUsed (steps_of s) nodes x) (sym u.uses.is)
    (steps.Back u.exit u.before u.letter.id u.after, back_step_in s u.exit u.before u.letter u.after u.step, (refl, u.uses.has, u.uses.called, u.uses.ends))

pub all_needed : (union : Automaton) (nodes : List OutlineNode) (s : Automaton) (one two three : List Listed) → NotesSteps union.insides inside_numbers nodes s.insides [] one →
    NotesSteps union.calls call_numbers nodes s.calls one two → NotesBackSteps union.backs nodes s.backs two three → AreNeeded union nodes s three
all_needed union nodes s one two three i c b = record {
  used = λ t m. elim (b.used t m) [
    | inl m2 ↦ elim (c.used t m2) [
      | inl m1 ↦ elim (i.used t m1) [ inl none ↦ absurd none | inr u ↦ inside_used nodes s t u ]
      | inr u ↦ call_used nodes s t u
    ]
    | inr u ↦ back_used nodes s t u
  ];
  insides = λ n a k e r m f. still_noted union.insides inside_numbers one three (node_at nodes n).preds a r (λ t o. b.kept t (c.kept t o)) (i.all n a k e r m f);
  calls = λ n a k e r m f. still_noted union.calls call_numbers two three (node_at nodes n).preds a r b.kept (c.all n a k e r m f);
  backs = b.all;
}

-- the same, where the lists are known by equations
pub all_by : (union : Automaton) (xs ys zs spots : List Spot) (s : Automaton) (insides calls : List (ℕ × Letter × ℕ)) (backs : List (ℕ × ℕ × Letter × ℕ)) (start one two three : List Listed) → xs ≡ spots →
    ys ≡ spots → zs ≡ spots → insides ≡ s.insides → calls ≡ s.calls → backs ≡ s.backs → start ≡ [] → NotesSteps union.insides inside_numbers (nodes_of xs) insides start one →
    NotesSteps union.calls call_numbers (nodes_of ys) calls one two → NotesBackSteps union.backs (nodes_of zs) backs two three → AreNeeded union (nodes_of spots) s three
all_by union xs ys zs spots s insides calls backs start one two three ex ey ez ei ec eb es i c b =
    let i1 : NotesSteps union.insides inside_numbers (nodes_of spots) insides start one = subst (λ (l : List Spot). NotesSteps union.insides inside_numbers (nodes_of l) insides start one) ex i in
    let i2 : NotesSteps union.insides inside_numbers (nodes_of spots) s.insides start one =
    subst (λ (l : List (ℕ × Letter × ℕ)). NotesSteps union.insides inside_numbers (nodes_of spots) l start one) ei i1 in
    let i3 : NotesSteps union.insides inside_numbers (nodes_of spots) s.insides [] one = subst (λ (l : List Listed). NotesSteps union.insides inside_numbers (nodes_of spots) s.insides l one) es i2 in
    let c1 : NotesSteps union.calls call_numbers (nodes_of spots) calls one two = subst (λ (l : List Spot). NotesSteps union.calls call_numbers (nodes_of l) calls one two) ey c in
    let c2 : NotesSteps union.calls call_numbers (nodes_of spots) s.calls one two =
    subst (λ (l : List (ℕ × Letter × ℕ)). NotesSteps union.calls call_numbers (nodes_of spots) l one two) ec c1 in
    let b1 : NotesBackSteps union.backs (nodes_of spots) backs two three = subst (λ (l : List Spot). NotesBackSteps union.backs (nodes_of l) backs two three) ez b in
    let b2 : NotesBackSteps union.backs (nodes_of spots) s.backs two three = subst (λ (l : List (ℕ × ℕ × Letter × ℕ)). NotesBackSteps union.backs (nodes_of spots) l two three) eb b1 in
    all_needed union (nodes_of spots) s one two three i3 c2 b2
