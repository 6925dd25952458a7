-- The steps on the goal at hand, as its lists give them.
use Rattle.std.proofs.Common.{◌≡◌, ◌∙◌, ℕ, ◌+◌, ◌<◌, ◌≤◌, Bool, List, [], ◌∷◌, ◌++◌, map, take, length, get_or, ap, sym, append_assoc, append-nil, if◌then◌else◌}
use Rattle.std.proofs.lemmas.List.{map_more, take_all, take-map}
use Rattle.nested_itp.specs.NestedRefutations.Refutations.{Role, spare, atom_at, atom_roles}
use Rattle.nested_itp.specs.TripleWalks.Stops.{taken_of}
use Rattle.nested_itp.specs.TripleWalks.Goals.{role_of, group_of, PlainGoal, with_roles, with_groups, with_exposed, gone_back}
use Rattle.nested_itp.specs.declared.triple_walks.goals.Role as row
use Rattle.nested_itp.specs.declared.triple_walks.goals.Group as group
use Rattle.nested_itp.specs.declared.triple_walks.goals.Mark as mark
use Rattle.nested_itp.specs.declared.triple_walks.stops.Taken as member

-- ---- what a claim gives

pub rows_more : (old now new : PlainGoal) (used : Bool) (i : ℕ) (leaves : List ℕ) (k : ℕ) (role : Role) → k < length leaves → role ≡ (if used then atom_at i (get_or leaves k 0) else spare) →
    now ≡ with_roles (atom_roles used i (take k leaves)) old → new ≡ with_roles (role ∷ []) now → new ≡ with_roles (atom_roles used i (take (k + 1) leaves)) old
rows_more old now new used i leaves k role h er e1 e2 =
    let f : ℕ → Role = λ m. if used then atom_at i m else spare in
    e2 ∙ ap (with_roles (role ∷ [])) e1 ∙ ap (λ (l : List Role). record old { roles = l })
    (append_assoc old.roles (map f (take k leaves)) (role ∷ []) ∙ ap (λ (l : List Role). old.roles ++ l) (ap (λ (r : Role). map f (take k leaves) ++ r ∷ []) er ∙ sym (map_more f leaves k 0 h)))

pub rows_first : (old : PlainGoal) (used : Bool) (i : ℕ) (leaves : List ℕ) → old ≡ with_roles (atom_roles used i (take 0 leaves)) old
rows_first old used i leaves = ap (λ (l : List Role). record old { roles = l }) (sym (append-nil old.roles))

-- all rows are there, and no group yet
pub rows_all : (old now : PlainGoal) (used : Bool) (i : ℕ) (leaves groups : List ℕ) (k : ℕ) → length leaves ≤ k → now ≡ with_roles (atom_roles used i (take k leaves)) old →
    now ≡ with_exposed i used leaves (take 0 groups) old
rows_all old now used i leaves groups k h e =
    e ∙ ap (λ (l : List ℕ). with_roles (atom_roles used i l) old) (take_all k leaves h) ∙ ap (λ (l : List (ℕ × ℕ)). record old { roles = old.roles ++ atom_roles used i leaves; groups = l }) (sym (append-nil old.groups))

pub groups_more : (old now new : PlainGoal) (used : Bool) (i : ℕ) (leaves groups : List ℕ) (k : ℕ) → k < length groups → now ≡ with_exposed i used leaves (take k groups) old →
    new ≡ with_groups ((i, get_or groups k 0) ∷ []) now → new ≡ with_exposed i used leaves (take (k + 1) groups) old
groups_more old now new used i leaves groups k h e1 e2 =
    let f : ℕ → ℕ × ℕ = λ n. (i, n) in
    e2 ∙ ap (with_groups (f (get_or groups k 0) ∷ [])) e1 ∙ ap (λ (l : List (ℕ × ℕ)). record old { roles = old.roles ++ atom_roles used i leaves; groups = l })
    (append_assoc old.groups (map f (take k groups)) (f (get_or groups k 0) ∷ []) ∙ ap (λ (l : List (ℕ × ℕ)). old.groups ++ l) (sym (map_more f groups k 0 h)))

pub groups_all : (old now : PlainGoal) (used : Bool) (i : ℕ) (leaves groups : List ℕ) (k : ℕ) → length groups ≤ k → now ≡ with_exposed i used leaves (take k groups) old →
    now ≡ with_exposed i used leaves groups old
groups_all old now used i leaves groups k h e = e ∙ ap (λ (l : List ℕ). with_exposed i used leaves l old) (take_all k groups h)

-- ---- back to what there was

pub back_is : (m : mark.Mark) (rs roles : List row.Role) (gs groups : List group.Group) (first : ℕ) (ts taken : List member.Taken) → rs ≡ take m.roles roles → gs ≡ take m.groups groups → ts ≡ take m.taken taken →
    record { roles = map role_of rs; groups = map group_of gs; first = m.first; taken = map taken_of ts } ≡
    gone_back m (record { roles = map role_of roles; groups = map group_of groups; first = first; taken = map taken_of taken })
back_is m rs roles gs groups first ts taken d e f =
    let a : map role_of rs ≡ take m.roles (map role_of roles) = ap (map role_of) d ∙ sym (take-map role_of m.roles roles) in
    let b : map group_of gs ≡ take m.groups (map group_of groups) = ap (map group_of) e ∙ sym (take-map group_of m.groups groups) in
    let c : map taken_of ts ≡ take m.taken (map taken_of taken) = ap (map taken_of) f ∙ sym (take-map taken_of m.taken taken) in
    cc
