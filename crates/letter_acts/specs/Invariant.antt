-- What an `Icfg` keeps: the graph of all procedures, with its letters, frames, names and places.
use Rattle.std.specs.Prelude.{◌≡◌, ◌≢◌, ℕ, suc, ◌+◌, ◌-◌, ◌^◌, ◌<◌, ◌≤◌, Bool, true, false, not, List, [], ◌∷◌, ◌++◌, map, filter, length, Option, None, Some, IsSome, IsSomeAnd, IsTrue, slice_get, unwrap_or}
use Rattle.std.specs.List.{AllByRecursion}
use Rattle.std.specs.Option.{option_map}
use Rattle.math_facts.specs.Terms.{IsBelow}
use Rattle.boogie_tree.specs.declared.tree.Column.{Column}
use Rattle.boogie_tree.specs.declared.tree.VarInfo.{VarInfo}
use Rattle.boogie_tree.specs.declared.tree.Ty.{Ty}
use Rattle.boogie_tree.specs.Names.{is_spelled}
use Rattle.lin_rows.specs.Rows.{LinearRow}
use Rattle.nwa_base.specs.declared.letters.Letter.{Letter}
use Rattle.nwa_base.specs.Members.{Member, SameMembers}
use Rattle.nwa_base.specs.Automata.{Automaton}
use Rattle.letter_acts.specs.declared.sites.Site.{Site}
use Rattle.letter_acts.specs.Frames.{Columns, IsFrame, is_global, is_old_column, is_local, is_parameter, result_columns, variables_of}
use Rattle.letter_acts.specs.Acts.{PlainAct, inside_act, call_act, back_act, Alphabet, frame_of, act_of}

-- what an `Icfg` consists of, as contracts see it
pub record Graph : Type 0 where
  pub automaton : Automaton
  pub acts : List PlainAct
  -- of each act whether it is coarse
  pub marks : List Bool
  pub frames : List Columns
  -- the names of the procedures
  pub names : List (List ℕ)
  -- the procedure of each state
  pub place_procs : List ℕ
  -- of each procedure the place where its body begins, None where it has no body
  pub entries : List (Option ℕ)
  -- of each procedure the place from which it returns
  pub exits : List (Option ℕ)
  -- the assertions, with the place that each failure leads to
  pub sites : List Site

-- whether the letter of this number is coarse; false where there is no such letter
abbrev pub mark_at : Graph → ℕ → Bool
mark_at g n = unwrap_or (slice_get g.marks n) false

abbrev pub alphabet_of : Graph → Alphabet
alphabet_of g = record { acts = g.acts; frames = g.frames }

-- no two of the list are equal
abbrev pub AreDistinct : {X : Type 0} → List X → Type 0
AreDistinct [] = Unit {0}
AreDistinct (x ∷ xs) = (Member xs x → ⊥) × AreDistinct xs

-- the place belongs to the procedure
abbrev pub IsPlaceOf : List ℕ → ℕ → ℕ → Type 0
IsPlaceOf procs p place = slice_get procs place ≡ Some p

-- an entry and an exit place that belong to the procedure, or neither
abbrev pub HasBody : List ℕ → ℕ → Option ℕ → Option ℕ → Type 0
HasBody procs p None None = Unit {0}
HasBody procs p None (Some x) = ⊥
HasBody procs p (Some e) None = ⊥
HasBody procs p (Some e) (Some x) = IsPlaceOf procs p e × IsPlaceOf procs p x

-- from procedure p on, each has an entry and an exit place of its own, or neither
abbrev pub HaveBodies : List ℕ → ℕ → List (Option ℕ) → List (Option ℕ) → Type 0
HaveBodies procs p [] [] = Unit {0}
HaveBodies procs p [] (x ∷ xs) = ⊥
HaveBodies procs p (e ∷ es) [] = ⊥
HaveBodies procs p (e ∷ es) (x ∷ xs) = HasBody procs p e x × HaveBodies procs (suc p) es xs

-- There is a name, an entry and an exit for each procedure, and each state has a procedure. A procedure has an entry and
-- an exit place or neither, and both belong to it. The start is place 0.
pub record HasProcedures (g : Graph) : Type 0 where
  pub names : length g.names ≡ length g.frames
  pub entries : length g.entries ≡ length g.frames
  pub exits : length g.exits ≡ length g.frames
  pub place_procs : length g.place_procs ≡ g.automaton.states
  pub procs_exist : AllByRecursion (λ p. p < length g.frames) g.place_procs
  pub bodies : HaveBodies g.place_procs 0 g.entries g.exits
  pub start : g.automaton.start ≡ 0

-- all frames begin with the same constants and globals
pub record AreFrames (frames : List Columns) : Type 0 where
  pub globals : List VarInfo
  pub laid_out : AllByRecursion (IsFrame globals) frames

-- the names of the columns that pass a test
abbrev pub names_where : (Column × VarInfo → Bool) → Columns → List (List ℕ)
names_where test frame = map (λ c. c.1.name) (filter test frame)

-- the names of the constants and globals differ, those of the locals differ, and each is spelled as a name
pub record HasNames (frame : Columns) : Type 0 where
  pub globals : AreDistinct (names_where is_global frame)
  pub locals : AreDistinct (names_where is_local frame)
  pub spelled : AllByRecursion (λ c. IsTrue (is_spelled c.1.name)) frame

-- the names of procedures differ and are spelled as names, and those of the columns of each frame
pub record AreNamed (g : Graph) : Type 0 where
  pub differ : AreDistinct g.names
  pub spelled : AllByRecursion (λ n. IsTrue (is_spelled n)) g.names
  pub columns : AllByRecursion HasNames g.frames

-- the column exists and is not constant
abbrev pub MayWrite : Columns → ℕ → Type 0
MayWrite frame c = IsSomeAnd (slice_get frame c) (λ v. v.1.constant ≡ false)

-- the columns of an inside act, as its rows number them: the frame, the written columns, the helpers
abbrev pub inside_width : Columns → List ℕ → ℕ → ℕ
inside_width frame written helpers = length frame + length written + helpers

-- the procedure exists, the written columns exist, differ and are not constant, and the rows are over the act's columns,
-- whose numbers fit
pub record InsideIsActed (al : Alphabet) (p : ℕ) (written : List ℕ) (helpers : ℕ) (rows : List LinearRow) : Type 0 where
  pub proc_exists : p < length al.frames
  pub may_write : AllByRecursion (MayWrite (frame_of al p)) written
  pub distinct : AreDistinct written
  pub numbers_fit : inside_width (frame_of al p) written helpers ≤ 2 ^ 32
  pub within : AllByRecursion (λ r. IsBelow (inside_width (frame_of al p) written helpers) r.terms) rows

-- the columns of a call act: the caller's frame, the callee's frame, the helpers
abbrev pub call_width : Columns → Columns → ℕ → ℕ
call_width caller callee helpers = length caller + length callee + helpers

-- a column that a call's rows may name: of the callee's they name constant locals alone, the parameters
pub record MayName (caller callee : Columns) (helpers c : ℕ) : Type 0 where
  pub within : c < call_width caller callee helpers
  pub parameter : length caller ≤ c → c < length caller + length callee →
      IsSomeAnd (slice_get callee (c - length caller)) (λ v. is_parameter v ≡ true)

-- both procedures exist, and the rows are over the act's columns, whose numbers fit, and of the callee's name parameters alone
pub record CallIsActed (al : Alphabet) (caller callee helpers : ℕ) (rows : List LinearRow) : Type 0 where
  pub caller_exists : caller < length al.frames
  pub callee_exists : callee < length al.frames
  pub numbers_fit : call_width (frame_of al caller) (frame_of al callee) helpers ≤ 2 ^ 32
  pub may_name : AllByRecursion (λ r. AllByRecursion (λ t. MayName (frame_of al caller) (frame_of al callee) helpers t.0) r.terms) rows

-- the column exists, is not constant and is no old column
abbrev pub MayTarget : Columns → ℕ → Type 0
MayTarget frame c = IsSomeAnd (slice_get frame c) (λ v. (v.1.constant ≡ false) × (is_old_column v.0 ≡ false))

-- the type of a column, if it exists
abbrev pub type_at : Columns → ℕ → Option Ty
type_at frame c = option_map (λ v. v.1.ty) (slice_get frame c)

-- each target takes the callee's result in its place, which exists and has the target's type
abbrev pub Take : Columns → Columns → List ℕ → List ℕ → Type 0
Take caller callee [] results = Unit {0}
Take caller callee (t ∷ ts) [] = ⊥
Take caller callee (t ∷ ts) (r ∷ rs) = (type_at caller t ≡ type_at callee r) × Take caller callee ts rs

-- the column is a constant or global
abbrev pub is_global_at : Columns → ℕ → Bool
is_global_at frame c = is_global_of (slice_get frame c)
  where
    is_global_of : Option (Column × VarInfo) → Bool
    is_global_of None = false
    is_global_of (Some v) = is_global v

-- the columns that a return writes in the caller's frame: the globals that may change, targets or not, and then the
-- targets that are no globals
abbrev pub written_by : Columns → List ℕ → List ℕ
written_by caller targets = variables_of caller ++ filter (λ t. not (is_global_at caller t)) targets

-- the targets differ, exist, are not constant and no old columns, each takes a result of its type, and the numbers of the
-- columns fit: the callee's frame, the caller's frame, the written columns, the helpers of the call
pub record BackIsActed (caller callee : Columns) (helpers : ℕ) (targets : List ℕ) : Type 0 where
  pub may_target : AllByRecursion (MayTarget caller) targets
  pub distinct : AreDistinct targets
  pub take : Take caller callee targets (result_columns callee)
  pub numbers_fit : length callee + length caller + length (written_by caller targets) + helpers ≤ 2 ^ 32

-- a return's call is a call act, and its targets fit it
abbrev pub BackIsActedFrom : Alphabet → List ℕ → Option PlainAct → Type 0
BackIsActedFrom al targets None = ⊥
BackIsActedFrom al targets (Some (inside_act p written helpers rows)) = ⊥
BackIsActedFrom al targets (Some (call_act caller callee helpers rows)) = BackIsActed (frame_of al caller) (frame_of al callee) helpers targets
BackIsActedFrom al targets (Some (back_act c more)) = ⊥

-- what each act keeps
abbrev pub IsActed : Alphabet → PlainAct → Type 0
IsActed al (inside_act p written helpers rows) = InsideIsActed al p written helpers rows
IsActed al (call_act caller callee helpers rows) = CallIsActed al caller callee helpers rows
IsActed al (back_act c targets) = BackIsActedFrom al targets (slice_get al.acts c)

-- an inside act joins two places of its procedure
abbrev pub InsideStays : Graph → Option PlainAct → ℕ → ℕ → Type 0
InsideStays g None q e = ⊥
InsideStays g (Some (inside_act p written helpers rows)) q e = IsPlaceOf g.place_procs p q × IsPlaceOf g.place_procs p e
InsideStays g (Some (call_act caller callee helpers rows)) q e = ⊥
InsideStays g (Some (back_act c targets)) q e = ⊥

-- the column is an old column
abbrev pub IsOld : Columns → ℕ → Type 0
IsOld frame c = IsSomeAnd (slice_get frame c) (λ v. is_old_column v.0 ≡ true)

-- an inside act writes no old column
abbrev pub WritesNoOld : Alphabet → Option PlainAct → Type 0
WritesNoOld al None = Unit {0}
WritesNoOld al (Some (inside_act p written helpers rows)) = AllByRecursion (λ c. IsOld (frame_of al p) c → ⊥) written
WritesNoOld al (Some (call_act caller callee helpers rows)) = Unit {0}
WritesNoOld al (Some (back_act c targets)) = Unit {0}

-- an edge by an inside letter of the alphabet stays in the procedure of its act, leads not to place 0, and writes no old
-- column unless it starts at place 0
pub record InsideFollows (g : Graph) (edge : ℕ × Letter × ℕ) : Type 0 where
  pub letter : IsSome (act_of (alphabet_of g) edge.1)
  pub stays : InsideStays g (act_of (alphabet_of g) edge.1) edge.0 edge.2
  pub to : edge.2 ≢ 0
  pub olds : edge.0 ≢ 0 → WritesNoOld (alphabet_of g) (act_of (alphabet_of g) edge.1)

-- a call act leads from a place of the caller to the callee's entry place
abbrev pub CallEnters : Graph → Option PlainAct → ℕ → ℕ → Type 0
CallEnters g None q e = ⊥
CallEnters g (Some (inside_act p written helpers rows)) q e = ⊥
CallEnters g (Some (call_act caller callee helpers rows)) q e = IsPlaceOf g.place_procs caller q × (slice_get g.entries callee ≡ Some (Some e))
CallEnters g (Some (back_act c targets)) q e = ⊥

-- an edge by a call letter of the alphabet leads from the caller to the callee's entry place, and not to place 0
pub record CallFollows (g : Graph) (edge : ℕ × Letter × ℕ) : Type 0 where
  pub letter : IsSome (act_of (alphabet_of g) edge.1)
  pub enters : CallEnters g (act_of (alphabet_of g) edge.1) edge.0 edge.2
  pub to : edge.2 ≢ 0

-- a return from a call with this act leads from the callee's exit place, with a place of the caller before it, to the caller
abbrev pub BackLeaves : Graph → Option PlainAct → ℕ → ℕ → ℕ → Type 0
BackLeaves g None q p e = ⊥
BackLeaves g (Some (inside_act n written helpers rows)) q p e = ⊥
BackLeaves g (Some (call_act caller callee helpers rows)) q p e =
    (slice_get g.exits callee ≡ Some (Some q)) × IsPlaceOf g.place_procs caller p × IsPlaceOf g.place_procs caller e
BackLeaves g (Some (back_act c targets)) q p e = ⊥

-- an edge by a return letter of the alphabet leaves the callee of its call, and leads not to place 0
pub record BackFollows (g : Graph) (edge : ℕ × ℕ × Letter × ℕ) : Type 0 where
  pub letter : IsSome (act_of (alphabet_of g) edge.2)
  pub leaves : BackLeaves g (slice_get g.acts edge.2.call) edge.0 edge.1 edge.3
  pub to : edge.3 ≢ 0

-- the call edges from a place, and the return edges with that place before them, have one call letter
pub record HasOneCall (m : Automaton) : Type 0 where
  pub calls : (q e f : ℕ) (a b : Letter) → Member m.calls (q, a, e) → Member m.calls (q, b, f) → a.id ≡ b.id
  pub both : (q x e f : ℕ) (a r : Letter) → Member m.calls (q, a, e) → Member m.backs (x, q, r, f) → a.id ≡ r.call
  pub backs : (q x y e f : ℕ) (r s : Letter) → Member m.backs (x, q, r, e) → Member m.backs (y, q, s, f) → r.call ≡ s.call

-- the edges are by letters of the alphabet and lead where their acts say, none leads to place 0, and each place has one call letter
pub record HasEdges (g : Graph) : Type 0 where
  pub insides : AllByRecursion (InsideFollows g) g.automaton.insides
  pub calls : AllByRecursion (CallFollows g) g.automaton.calls
  pub backs : AllByRecursion (BackFollows g) g.automaton.backs
  pub one_call : HasOneCall g.automaton

-- numbered in order from n on
abbrev pub AreNumbered : ℕ → List Site → Type 0
AreNumbered n [] = Unit {0}
AreNumbered n (s ∷ ss) = (s.id.number ≡ n) × AreNumbered (suc n) ss

-- the places of sites
abbrev pub site_places : List Site → List ℕ
site_places sites = map (λ s. s.place) sites

-- the sites are numbered from 1 in order, their places differ, and these places are exactly the final states
pub record HasSites (g : Graph) : Type 0 where
  pub numbered : AreNumbered 1 g.sites
  pub differ : AreDistinct (site_places g.sites)
  pub finals : SameMembers (site_places g.sites) g.automaton.finals

-- what an `Icfg` keeps
pub record IsGraph (g : Graph) : Type 0 where
  pub procedures : HasProcedures g
  pub frames : AreFrames g.frames
  pub names : AreNamed g
  pub acts : AllByRecursion (IsActed (alphabet_of g)) g.acts
  pub edges : HasEdges g
  pub sites : HasSites g
