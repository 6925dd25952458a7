-- The rows of a goal on the way to a leaf: those of the triple's system, the own cuts of the branch, and atoms.
use Rattle.std.proofs.Common.{◌≡◌, ◌∙◌, ◌⊎◌, inl, inr, ℕ, zero, suc, ◌+◌, ◌<◌, ℤ, pos, ◌+ℤ◌, ◌*ℤ◌, Bool, true, false, IsTrue, List, [], ◌∷◌, ◌++◌, length, map, refl, sym, ap, subst, arith, length-append, append_assoc, Some}
use Rattle.std.specs.Prelude.{◌||◌, slice_get, if◌then◌else◌}
use Rattle.std.proofs.lemmas.Bool.{eq-eqb}
use Rattle.std.proofs.lemmas.Int.{ints}
use Rattle.std.proofs.lemmas.List.{append-nil}
use Rattle.lin_rows.specs.declared.types.RowKind.TheVariants.{Eq}
use Rattle.lin_rows.specs.Rows.{LinearRow}
use Rattle.lin_rows.specs.Tightening.{tightened}
use Rattle.lin_rows.specs.Combinations.{row_at}
use Rattle.farkas_check.specs.Refutes.{at_most, above}
use Rattle.nwa_base.specs.Members.{Member}
use Rattle.nested_itp.specs.NestedPredicates.Stamps.{column_stamp}
use Rattle.nested_itp.specs.NestedPredicates.Sums.{Branch, with_cut}
use Rattle.nested_itp.specs.NestedRefutations.Refutations.{Claim, TreeSpot, side_of, Role, spare, atom_at, branch_row, target_tie, source_tie, opposite_tie, View, Gathered, Meeting, own_cut, told_by, meeting_of, is_atom, stands, atom_roles, is_used, with_own}
use Rattle.nested_itp.proofs.NestedRefutations.RowsLaws.{AllPairs, pairs_joined, pairs_weaker, pairs_counted, IsAtomRow}
use Rattle.nested_itp.proofs.NestedRefutations.StopLaws.{KeepsWay}

-- ---- sums of the rows that are no atoms

-- these multipliers of the rows that are no atoms
abbrev pub other_of : (Role → ℤ) → Role → ℤ
other_of val spare = pos 0
other_of val (atom_at i n) = pos 0
other_of val (branch_row r) = val (branch_row r)
other_of val (target_tie c) = val (target_tie c)
other_of val (source_tie c) = val (source_tie c)
other_of val (opposite_tie c) = val (opposite_tie c)

abbrev pub others : (Role → ℤ) → (LinearRow → ℤ) → List Role → List LinearRow → ℤ
others val number [] rows = pos 0
others val number (r ∷ rs) [] = pos 0
others val number (r ∷ rs) (x ∷ xs) = (other_of val r *ℤ number x) +ℤ others val number rs xs

pub others_joined : (val : Role → ℤ) (number : LinearRow → ℤ) (rs : List Role) (xs : List LinearRow) (more : List Role) (ys : List LinearRow) → length rs ≡ length xs →
    others val number (rs ++ more) (xs ++ ys) ≡ others val number rs xs +ℤ others val number more ys
others_joined val number [] [] more ys e = omega (arith, ints)
others_joined val number [] (x ∷ xs) more ys e = absurd (omega (arith, e))
others_joined val number (r ∷ rs) [] more ys e = absurd (omega (arith, e))
others_joined val number (r ∷ rs) (x ∷ xs) more ys e =
    let h : others val number (rs ++ more) (xs ++ ys) ≡ others val number rs xs +ℤ others val number more ys = others_joined val number rs xs more ys (omega (arith, e)) in
    omega (arith, ints)

no_times : (z : ℤ) → pos 0 *ℤ z ≡ pos 0
no_times z = omega (arith, ints)

pub others_atoms : (val : Role → ℤ) (number : LinearRow → ℤ) (used : Bool) (i : ℕ) (leaves : List ℕ) (xs : List LinearRow) → others val number (atom_roles used i leaves) xs ≡ pos 0
others_atoms val number used i [] xs = refl
others_atoms val number used i (m ∷ leaves) [] = refl
others_atoms val number true i (m ∷ leaves) (x ∷ xs) =
    let h : others val number (atom_roles true i leaves) xs ≡ pos 0 = others_atoms val number true i leaves xs in
    let o : pos 0 *ℤ number x ≡ pos 0 = no_times (number x) in
    omega (arith, ints)
others_atoms val number false i (m ∷ leaves) (x ∷ xs) =
    let h : others val number (atom_roles false i leaves) xs ≡ pos 0 = others_atoms val number false i leaves xs in
    let o : pos 0 *ℤ number x ≡ pos 0 = no_times (number x) in
    omega (arith, ints)

-- ---- sums of own cuts

abbrev pub is_own_meeting : Meeting → Bool
is_own_meeting own_cut = true
is_own_meeting (told_by i c) = false

-- cuts on columns with this stamp are own cuts
abbrev pub is_own : View → ℕ → Bool
is_own v stamp = is_own_meeting (meeting_of v.returns 0 v.claims stamp)

-- the row over the system's columns
abbrev pub recolumned : (ℕ → ℕ) → LinearRow → LinearRow
recolumned to r = record { terms = map (λ t. (to t.0, t.1)) r.terms; kind = r.kind; bound = r.bound }

abbrev pub own_one : View → (Role → ℤ) → (LinearRow → ℤ) → ℕ → LinearRow → ℕ → ℤ
own_one v val number k r s = if is_own v s then val (branch_row k) *ℤ number (recolumned v.column r) else pos 0

-- those of these rows of a branch, from number k on, that are rows of own cuts
abbrev pub own_sum : View → (Role → ℤ) → (LinearRow → ℤ) → ℕ → List LinearRow → List ℕ → ℤ
own_sum v val number k [] stamps = pos 0
own_sum v val number k (r ∷ rs) [] = pos 0
own_sum v val number k (r ∷ rs) (s ∷ ss) = own_one v val number k r s +ℤ own_sum v val number (suc k) rs ss

pub own_behind : (v : View) (val : Role → ℤ) (number : LinearRow → ℤ) (k : ℕ) (rs : List LinearRow) (ss : List ℕ) (r : LinearRow) (s : ℕ) → length ss ≡ length rs →
    own_sum v val number k (rs ++ r ∷ []) (ss ++ s ∷ []) ≡ own_sum v val number k rs ss +ℤ own_one v val number (k + length rs) r s
own_behind v val number k [] [] r s e =
    let h : own_one v val number k r s ≡ own_one v val number (k + 0) r s = ap (λ (n : ℕ). own_one v val number n r s) (let q : k ≡ k + 0 = omega arith in q) in
    omega (arith, ints)
own_behind v val number k [] (x ∷ ss) r s e = absurd (omega (arith, e))
own_behind v val number k (x ∷ rs) [] r s e = absurd (omega (arith, e))
own_behind v val number k (x ∷ rs) (y ∷ ss) r s e =
    let h : own_sum v val number (suc k) (rs ++ r ∷ []) (ss ++ s ∷ []) ≡ own_sum v val number (suc k) rs ss +ℤ own_one v val number (suc k + length rs) r s =
    own_behind v val number (suc k) rs ss r s (omega (arith, e)) in
    let q : own_one v val number (suc k + length rs) r s ≡ own_one v val number (k + suc (length rs)) r s =
    ap (λ (n : ℕ). own_one v val number n r s) (let p : suc k + length rs ≡ k + suc (length rs) = omega arith in p) in
    omega (arith, ints)

-- ---- what each row is

-- the row of the atom of this claim at the leaf with this number
pub record AtomFits (v : View) (root : TreeSpot) (i n : ℕ) (row : LinearRow) : Type 0 where
  pub claim : Claim
  pub found : slice_get v.claims i ≡ Some claim
  pub used : is_used v i ≡ true
  pub given : LinearRow
  pub is_atom : IsAtomRow v.columns root claim n given
  pub row_is : row ≡ tightened given

-- a row of a branch with these rows has the kind of that row, and one that ties columns is an equality
abbrev pub RoleFits : View → TreeSpot → List LinearRow → Role → LinearRow → Type 0
RoleFits v root rows spare row = Unit {0}
RoleFits v root rows (atom_at i n) row = AtomFits v root i n row
RoleFits v root rows (branch_row r) row = (r < length rows) × (row.kind ≡ (row_at rows r).kind)
RoleFits v root rows (target_tie c) row = row.kind ≡ Eq
RoleFits v root rows (source_tie c) row = row.kind ≡ Eq
RoleFits v root rows (opposite_tie c) row = row.kind ≡ Eq

row_kept : (rows : List LinearRow) (more : LinearRow) (r : ℕ) → r < length rows → row_at (rows ++ more ∷ []) r ≡ row_at rows r
row_kept [] more r l = absurd (omega (arith, l))
row_kept (x ∷ rows) more zero l = refl
row_kept (x ∷ rows) more (suc r) l = row_kept rows more r (omega (arith, l))

row_last : (rows : List LinearRow) (more : LinearRow) → row_at (rows ++ more ∷ []) (length rows) ≡ more
row_last [] more = refl
row_last (x ∷ rows) more = row_last rows more

role_kept : (v : View) (root : TreeSpot) (rows : List LinearRow) (more : LinearRow) (role : Role) (row : LinearRow) → RoleFits v root rows role row → RoleFits v root (rows ++ more ∷ []) role row
role_kept v root rows more spare row h = h
role_kept v root rows more (atom_at i n) row h = h
role_kept v root rows more (branch_row r) row h =
    let l : length (rows ++ more ∷ []) ≡ length rows + length (more ∷ []) = length-append rows (more ∷ []) in
    let n = h.0 in
    (omega (arith, l, n), h.1 ∙ ap (λ (x : LinearRow). x.kind) (sym (row_kept rows more r h.0)))
role_kept v root rows more (target_tie c) row h = h
role_kept v root rows more (source_tie c) row h = h
role_kept v root rows more (opposite_tie c) row h = h

-- ---- the way

-- a row of a cut, with the stamp of its column
pub record IsCutRow (v : View) (row : LinearRow) (stamp : ℕ) : Type 0 where
  pub column : ℕ
  pub bound : ℤ
  pub side : Bool
  pub row_is : row ≡ side_of side (at_most column bound) (above column bound)
  pub stamp_is : stamp ≡ column_stamp v.columns column

-- The goal's rows are those with which it began, those of the own cuts among these last rows of the branch, and atoms.
pub record Way (v : View) (root : TreeSpot) (first g : Gathered) (b : Branch) : Type 0 where
  pub more : List LinearRow
  pub late : List ℕ
  pub rows : b.rows ≡ root.branch.rows ++ more
  pub stamps : b.stamps ≡ root.branch.stamps ++ late
  pub cuts : AllPairs (IsCutRow v) more late
  pub sums : (val : Role → ℤ) (number : LinearRow → ℤ) → others val number g.roles g.rows ≡
      others val number first.roles first.rows +ℤ own_sum v val number (length root.branch.rows) more late
  pub pairs : AllPairs (RoleFits v root b.rows) g.roles g.rows

pub first_way : (v : View) (root : TreeSpot) (first : Gathered) → AllPairs (RoleFits v root root.branch.rows) first.roles first.rows → Way v root first first root.branch
first_way v root first h = record {
  more = [];
  late = [];
  rows = sym (append-nil root.branch.rows);
  stamps = sym (append-nil root.branch.stamps);
  cuts = tt;
  sums = λ val number. (let e : others val number first.roles first.rows ≡ others val number first.roles first.rows +ℤ pos 0 = omega (arith, ints) in e);
  pairs = h;
}

-- by a cut that is none of its own the goal stays
told_way : (v : View) (root : TreeSpot) (first g : Gathered) (b : Branch) (stamp : ℕ) (row : LinearRow) → IsCutRow v row stamp → is_own v stamp ≡ false → Way v root first g b → Way v root first g (with_cut b stamp row)
told_way v root first g b stamp row is_cut e w = record {
  more = w.more ++ row ∷ [];
  late = w.late ++ stamp ∷ [];
  rows = ap (λ (l : List LinearRow). l ++ row ∷ []) w.rows ∙ append_assoc root.branch.rows w.more (row ∷ []);
  stamps = ap (λ (l : List ℕ). l ++ stamp ∷ []) w.stamps ∙ append_assoc root.branch.stamps w.late (stamp ∷ []);
  cuts = pairs_joined (IsCutRow v) w.more w.late (row ∷ []) (stamp ∷ []) w.cuts (is_cut, tt);
  sums = λ val number. grown val number;
  pairs = pairs_weaker (RoleFits v root b.rows) (RoleFits v root (b.rows ++ row ∷ [])) (role_kept v root b.rows row) g.roles g.rows w.pairs;
}
  where
    nothing : (val : Role → ℤ) (number : LinearRow → ℤ) (k : ℕ) (z : Bool) → z ≡ false → (if z then val (branch_row k) *ℤ number (recolumned v.column row) else pos 0) ≡ pos 0
    nothing val number k true q = absurd (cc)
    nothing val number k false q = refl

    grown : (val : Role → ℤ) (number : LinearRow → ℤ) → others val number g.roles g.rows ≡
        others val number first.roles first.rows +ℤ own_sum v val number (length root.branch.rows) (w.more ++ row ∷ []) (w.late ++ stamp ∷ [])
    grown val number =
        let a = w.sums val number in
        let c = own_behind v val number (length root.branch.rows) w.more w.late row stamp (sym (pairs_counted (IsCutRow v) w.more w.late w.cuts)) in
        let d : own_one v val number (length root.branch.rows + length w.more) row stamp ≡ pos 0 = nothing val number (length root.branch.rows + length w.more) (is_own v stamp) e in
        omega (arith, ints, a, c, d)

pub keeps_way : (v : View) (root : TreeSpot) (first g : Gathered) → KeepsWay v (Way v root first g)
keeps_way v root first g b col k i c e w =
    let o : is_own v (column_stamp v.columns col) ≡ false = ap is_own_meeting e in (
      told_way v root first g b (column_stamp v.columns col) (at_most col k) (record { column = col; bound = k; side = false; row_is = refl; stamp_is = refl }) o w,
      told_way v root first g b (column_stamp v.columns col) (above col k) (record { column = col; bound = k; side = true; row_is = refl; stamp_is = refl }) o w,
    )

-- with a row behind, whose kind is that of the cut's
own_way : (v : View) (root : TreeSpot) (first g : Gathered) (b : Branch) (stamp r : ℕ) (row : LinearRow) (new : Gathered) → IsCutRow v row stamp → is_own v stamp ≡ true → r ≡ length b.rows →
    new.roles ≡ g.roles ++ branch_row r ∷ [] → new.rows ≡ g.rows ++ recolumned v.column row ∷ [] → Way v root first g b → Way v root first new (with_cut b stamp row)
own_way v root first g b stamp r row new is_cut e l nr nx w = record {
  more = w.more ++ row ∷ [];
  late = w.late ++ stamp ∷ [];
  rows = ap (λ (l : List LinearRow). l ++ row ∷ []) w.rows ∙ append_assoc root.branch.rows w.more (row ∷ []);
  stamps = ap (λ (l : List ℕ). l ++ stamp ∷ []) w.stamps ∙ append_assoc root.branch.stamps w.late (stamp ∷ []);
  cuts = pairs_joined (IsCutRow v) w.more w.late (row ∷ []) (stamp ∷ []) w.cuts (is_cut, tt);
  sums = λ val number. grown val number;
  pairs = subst (λ (rs : List Role). AllPairs (RoleFits v root (b.rows ++ row ∷ [])) rs new.rows) (sym nr)
      (subst (AllPairs (RoleFits v root (b.rows ++ row ∷ [])) (g.roles ++ branch_row r ∷ [])) (sym nx)
      (pairs_joined (RoleFits v root (b.rows ++ row ∷ [])) g.roles g.rows (branch_row r ∷ []) (recolumned v.column row ∷ [])
      (pairs_weaker (RoleFits v root b.rows) (RoleFits v root (b.rows ++ row ∷ [])) (role_kept v root b.rows row) g.roles g.rows w.pairs) (last, tt)));
}
  where
    last : (r < length (b.rows ++ row ∷ [])) × ((recolumned v.column row).kind ≡ (row_at (b.rows ++ row ∷ []) r).kind)
    last =
        let n : length (b.rows ++ row ∷ []) ≡ length b.rows + length (row ∷ []) = length-append b.rows (row ∷ []) in
        (omega (arith, n, l), ap (λ (x : LinearRow). x.kind) (sym (ap (row_at (b.rows ++ row ∷ [])) l ∙ row_last b.rows row)))

    taken : (val : Role → ℤ) (number : LinearRow → ℤ) (k : ℕ) (z : Bool) → z ≡ true →
        (if z then val (branch_row k) *ℤ number (recolumned v.column row) else pos 0) ≡ val (branch_row k) *ℤ number (recolumned v.column row)
    taken val number k true q = refl
    taken val number k false q = absurd (cc)

    grown : (val : Role → ℤ) (number : LinearRow → ℤ) → others val number new.roles new.rows ≡
        others val number first.roles first.rows +ℤ own_sum v val number (length root.branch.rows) (w.more ++ row ∷ []) (w.late ++ stamp ∷ [])
    grown val number =
        let a = w.sums val number in
        let c = own_behind v val number (length root.branch.rows) w.more w.late row stamp (sym (pairs_counted (IsCutRow v) w.more w.late w.cuts)) in
        let k : ℕ = length root.branch.rows + length w.more in
        let d : own_one v val number k row stamp ≡ val (branch_row k) *ℤ number (recolumned v.column row) = taken val number k (is_own v stamp) e in
        let f : others val number new.roles new.rows ≡ others val number (g.roles ++ branch_row r ∷ []) (g.rows ++ recolumned v.column row ∷ []) =
        ap (λ (rs : List Role). others val number rs new.rows) nr ∙ ap (others val number (g.roles ++ branch_row r ∷ [])) nx in
        let h = others_joined val number g.roles g.rows (branch_row r ∷ []) (recolumned v.column row ∷ []) (pairs_counted (RoleFits v root b.rows) g.roles g.rows w.pairs) in
        let m : length b.rows ≡ length root.branch.rows + length w.more = ap (λ (l : List LinearRow). length l) w.rows ∙ length-append root.branch.rows w.more in
        let p : val (branch_row r) ≡ val (branch_row k) = ap (λ (n : ℕ). val (branch_row n)) (l ∙ m) in
        let q : val (branch_row r) *ℤ number (recolumned v.column row) ≡ val (branch_row k) *ℤ number (recolumned v.column row) = ap (λ (z : ℤ). z *ℤ number (recolumned v.column row)) p in
        omega (arith, ints, a, c, d, f, h, q)

pub low_way : (v : View) (root : TreeSpot) (first g : Gathered) (b : Branch) (col r : ℕ) (k : ℤ) → meeting_of v.returns 0 v.claims (column_stamp v.columns col) ≡ own_cut → r ≡ length b.rows →
    Way v root first g b → Way v root first (with_own v r col k false g) (with_cut b (column_stamp v.columns col) (at_most col k))
low_way v root first g b col r k e l w =
    own_way v root first g b (column_stamp v.columns col) r (at_most col k) (with_own v r col k false g) (record { column = col; bound = k; side = false; row_is = refl; stamp_is = refl }) (ap is_own_meeting e) l refl refl w

pub high_way : (v : View) (root : TreeSpot) (first g : Gathered) (b : Branch) (col r : ℕ) (k : ℤ) → meeting_of v.returns 0 v.claims (column_stamp v.columns col) ≡ own_cut → r ≡ length b.rows →
    Way v root first g b → Way v root first (with_own v r col k true g) (with_cut b (column_stamp v.columns col) (above col k))
high_way v root first g b col r k e l w =
    own_way v root first g b (column_stamp v.columns col) r (above col k) (with_own v r col k true g) (record { column = col; bound = k; side = true; row_is = refl; stamp_is = refl }) (ap is_own_meeting e) l refl refl w

-- with atoms behind
pub atoms_way : (v : View) (root : TreeSpot) (first g : Gathered) (b : Branch) (used : Bool) (i : ℕ) (leaves : List ℕ) (rows : List LinearRow) (new : Gathered) →
    new.roles ≡ g.roles ++ atom_roles used i leaves → new.rows ≡ g.rows ++ rows → AllPairs (RoleFits v root b.rows) (atom_roles used i leaves) rows →
    Way v root first g b → Way v root first new b
atoms_way v root first g b used i leaves rows new nr nx h w = record {
  more = w.more;
  late = w.late;
  rows = w.rows;
  stamps = w.stamps;
  cuts = w.cuts;
  sums = λ val number. grown val number;
  pairs = subst (λ (rs : List Role). AllPairs (RoleFits v root b.rows) rs new.rows) (sym nr)
      (subst (AllPairs (RoleFits v root b.rows) (g.roles ++ atom_roles used i leaves)) (sym nx)
      (pairs_joined (RoleFits v root b.rows) g.roles g.rows (atom_roles used i leaves) rows w.pairs h));
}
  where
    grown : (val : Role → ℤ) (number : LinearRow → ℤ) → others val number new.roles new.rows ≡
        others val number first.roles first.rows +ℤ own_sum v val number (length root.branch.rows) w.more w.late
    grown val number =
        let a = w.sums val number in
        let f : others val number new.roles new.rows ≡ others val number (g.roles ++ atom_roles used i leaves) (g.rows ++ rows) =
        ap (λ (rs : List Role). others val number rs new.rows) nr ∙ ap (others val number (g.roles ++ atom_roles used i leaves)) nx in
        let c = others_joined val number g.roles g.rows (atom_roles used i leaves) rows (pairs_counted (RoleFits v root b.rows) g.roles g.rows w.pairs) in
        let d = others_atoms val number used i leaves rows in
        omega (arith, ints, a, f, c, d)

-- ---- atoms that stand

or_left : (x y : Bool) → x ≡ true → (x || y) ≡ true
or_left true y e = refl
or_left false y e = absurd (cc)

or_right : (x y : Bool) → y ≡ true → (x || y) ≡ true
or_right true y e = refl
or_right false y e = e

or_cases : (x y : Bool) → (x || y) ≡ true → (x ≡ true) ⊎ (y ≡ true)
or_cases true y e = inl refl
or_cases false y e = inr e

pub stands_left : (rs more : List Role) (i m : ℕ) → IsTrue (stands rs i m) → IsTrue (stands (rs ++ more) i m)
stands_left [] more i m h = absurd (cc)
stands_left (r ∷ rs) more i m h = by_cases (or_cases (is_atom r i m) (stands rs i m) h) (stands_left rs more i m)
  where
    by_cases : (is_atom r i m ≡ true) ⊎ (stands rs i m ≡ true) → (stands rs i m ≡ true → stands (rs ++ more) i m ≡ true) → (is_atom r i m || stands (rs ++ more) i m) ≡ true
    by_cases (inl e) f = or_left (is_atom r i m) (stands (rs ++ more) i m) e
    by_cases (inr e) f = or_right (is_atom r i m) (stands (rs ++ more) i m) (f e)

pub stands_right : (rs more : List Role) (i m : ℕ) → IsTrue (stands more i m) → IsTrue (stands (rs ++ more) i m)
stands_right [] more i m h = h
stands_right (r ∷ rs) more i m h = or_right (is_atom r i m) (stands (rs ++ more) i m) (stands_right rs more i m h)

pub stands_exposed : (i : ℕ) (leaves : List ℕ) (m : ℕ) → Member leaves m → IsTrue (stands (atom_roles true i leaves) i m)
stands_exposed i [] m h = absurd h
stands_exposed i (x ∷ leaves) m (inl e) = or_left (is_atom (atom_at i x) i m) (stands (atom_roles true i leaves) i m) (same x e)
  where
    same : (x : ℕ) → x ≡ m → is_atom (atom_at i x) i m ≡ true
    same x q = subst (λ (n : ℕ). is_atom (atom_at i x) i n ≡ true) q (self i x)
      where
        self : (i x : ℕ) → is_atom (atom_at i x) i x ≡ true
        self i x = rw (eq-eqb i i refl) (eq-eqb x x refl)
stands_exposed i (x ∷ leaves) m (inr h) = or_right (is_atom (atom_at i x) i m) (stands (atom_roles true i leaves) i m) (stands_exposed i leaves m h)
