-- A text that begins with the line of a part names that part: the names of a program's procedures differ, and no byte of them ends a line.
use Rattle.std.proofs.Common.{◌≡◌, ◌⊎◌, ℕ, ◌+◌, List, [], ◌∷◌, ◌++◌, map, Bool, true, false, not, cond, ◌&&◌, ◌||◌, Option, None, Some, ap, refl, sym, ◌∙◌, subst, inl, inr, append_assoc, nat_eq}
use Rattle.std.specs.List.{list_all, list_any, AllByRecursion}
use Rattle.std.specs.Option.{option_or, option_map, option_and_then}
use Rattle.std.specs.Str.{bytes_eq}
use Rattle.std.proofs.lemmas.Bool.{eqb-true, and_parts, and_from, or_cases, false≢true, not-true, false_from_ne_true}
use Rattle.std.proofs.lemmas.Option.{none-some, cond_some}
use Rattle.std.proofs.lemmas.Slice.Eq.{bytes_eq-Decides}
use Rattle.boogie_tree.specs.Names.{is_digit, is_name_byte, is_name, are_digits, is_name_or_number, is_made_mark, is_made, is_spelled}
use Rattle.boogie_tree.specs.Tree.{Declaration}
use Rattle.typed_tree.specs.TypedTree.{TypedBlock, TypedProcedure, TypedProgram}
use Rattle.typed_tree.specs.TypingRules.Rules.{all_differ, keeps_typing}
use Rattle.typed_tree.specs.TypingRules.Shape.{are_names, is_procedure_shaped, has_shape}
use Rattle.typed_tree.specs.TypingRules.ValidProgram.{has_entry, is_typed}
use Rattle.boogie_types.specs.Resolved.{are_sets, are_implementations, named_program, entry_number, if_typed, resolved_program}
use Rattle.boogie_types.proofs.ShapeLists.{all_weaker}
use Rattle.modular_cut.specs.Parts.{PlainPart, part_if, parts_from_number, parts_of}
use Rattle.automizer_top.specs.PartTexts.{part_line, text_behind}
use Rattle.automizer_top.specs.Parts.{part_in}
use Rattle.automizer_top.proofs.PartFronts.{behind_append}

-- ---- names have no newline

-- the byte ends no line
abbrev is_inside : ℕ → Bool
is_inside b = not (nat_eq b 10)

abbrev IsPlain : List ℕ → Type 0
IsPlain bs = list_all is_inside bs ≡ true

inside_by : (P : ℕ → Bool) (b : ℕ) (t : Bool) → nat_eq b 10 ≡ t → P 10 ≡ false → P b ≡ true → not t ≡ true
inside_by P b true e off on = absurd (false≢true (sym off ∙ ap P (sym (eqb-true b 10 e)) ∙ on))
inside_by P b false e off on = refl

inside : (P : ℕ → Bool) (b : ℕ) → P 10 ≡ false → P b ≡ true → is_inside b ≡ true
inside P b off on = inside_by P b (nat_eq b 10) refl off on

all_inside : (P : ℕ → Bool) (bs : List ℕ) → P 10 ≡ false → list_all P bs ≡ true → IsPlain bs
all_inside P bs off h = all_weaker P is_inside (λ b e. inside P b off e) bs h

plain_name : (bs : List ℕ) → is_name bs ≡ true → IsPlain bs
plain_name [] h = refl
plain_name (b ∷ bs) h = all_inside is_name_byte (b ∷ bs) refl (and_parts (not (is_digit b)) (list_all is_name_byte (b ∷ bs)) h).1

plain_digits : (bs : List ℕ) → are_digits bs ≡ true → IsPlain bs
plain_digits [] h = refl
plain_digits (b ∷ bs) h = all_inside is_digit (b ∷ bs) refl h

plain_either : (bs : List ℕ) → (are_digits bs ≡ true) ⊎ (is_name bs ≡ true) → IsPlain bs
plain_either bs (inl h) = plain_digits bs h
plain_either bs (inr h) = plain_name bs h

plain_made : (bs : List ℕ) → is_made bs ≡ true → IsPlain bs
plain_made [] h = refl
plain_made (a ∷ []) h = absurd (false≢true h)
plain_made (a ∷ b ∷ bs) h =
    let m = and_parts (is_made_mark a) (nat_eq b 58 && is_name_or_number bs) h in
    let k = and_parts (nat_eq b 58) (is_name_or_number bs) m.1 in
    and_from (is_inside a) (list_all is_inside (b ∷ bs)) (inside is_made_mark a refl m.0)
    (and_from (is_inside b) (list_all is_inside bs) (inside (λ x. nat_eq x 58) b refl k.0) (plain_either bs (or_cases (are_digits bs) (is_name bs) k.1)))

plain_by : (bs : List ℕ) → (is_name bs ≡ true) ⊎ (is_made bs ≡ true) → IsPlain bs
plain_by bs (inl h) = plain_name bs h
plain_by bs (inr h) = plain_made bs h

plain_spelled : (bs : List ℕ) → is_spelled bs ≡ true → IsPlain bs
plain_spelled bs h = plain_by bs (or_cases (is_name bs) (is_made bs) h)

-- ---- lines of parts with other names

newline_first : (b : ℕ) (bs xs : List ℕ) → is_inside b ≡ true → text_behind (10 ∷ bs) (b ∷ xs) ≡ None
newline_first b bs xs h =
    let n : nat_eq 10 b ≡ false = false_from_ne_true (nat_eq 10 b) (λ e. false≢true (sym (ap (λ (x : ℕ). is_inside x) (sym (eqb-true 10 b e))) ∙ h)) in
    ap (λ (t : Bool). cond t (text_behind bs xs) None) n

newline_later : (b : ℕ) (bs xs : List ℕ) → is_inside b ≡ true → text_behind (b ∷ bs) (10 ∷ xs) ≡ None
newline_later b bs xs h = ap (λ (t : Bool). cond t (text_behind bs xs) None) (not-true (nat_eq b 10) h)

other_by : (a b : ℕ) (cs bs : List ℕ) (m : Option (List ℕ)) (t : Bool) → nat_eq a b ≡ t → (a ∷ cs ≡ b ∷ bs → ⊥) → ((cs ≡ bs → ⊥) → m ≡ None) → cond t m None ≡ None
other_by a b cs bs m true e differ h = h (λ same. differ (λ i. eqb-true a b e i ∷ same i))
other_by a b cs bs m false e differ h = refl

other_name : (x y rest : List ℕ) → IsPlain x → IsPlain y → (x ≡ y → ⊥) → text_behind (x ++ 10 ∷ []) (y ++ 10 ∷ rest) ≡ None
other_name [] [] rest p q differ = absurd (differ refl)
other_name [] (b ∷ bs) rest p q differ = newline_first b [] (bs ++ 10 ∷ rest) (and_parts (is_inside b) (list_all is_inside bs) q).0
other_name (a ∷ cs) [] rest p q differ = newline_later a (cs ++ 10 ∷ []) rest (and_parts (is_inside a) (list_all is_inside cs) p).0
other_name (a ∷ cs) (b ∷ bs) rest p q differ =
    other_by a b cs bs (text_behind (cs ++ 10 ∷ []) (bs ++ 10 ∷ rest)) (nat_eq a b) refl differ
    (other_name cs bs rest (and_parts (is_inside a) (list_all is_inside cs) p).1 (and_parts (is_inside b) (list_all is_inside bs) q).1)

other_line : (x y rest : List ℕ) → IsPlain x → IsPlain y → (x ≡ y → ⊥) → text_behind (part_line x) (part_line y ++ rest) ≡ None
other_line x y rest p q differ = ap (text_behind (x ++ 10 ∷ [])) (append_assoc y (10 ∷ []) rest) ∙ other_name x y rest p q differ

-- ---- the part that is named

-- another part, whose name has no newline
abbrev IsOther : PlainPart → PlainPart → Type 0
IsOther p q = IsPlain q.name × (q.name ≡ p.name → ⊥)

named_among : (before after : List PlainPart) (p : PlainPart) (rest : List ℕ) → IsPlain p.name → AllByRecursion (IsOther p) before →
    part_in (before ++ p ∷ after) (part_line p.name ++ rest) ≡ Some (p, rest)
named_among [] after p rest plain others =
    ap (λ (o : Option (List ℕ)). option_or (option_map (λ rest. (p, rest)) o) (part_in after (part_line p.name ++ rest))) (behind_append (part_line p.name) rest)
named_among (q ∷ before) after p rest plain others =
    ap (λ (o : Option (List ℕ)). option_or (option_map (λ rest. (q, rest)) o) (part_in (before ++ p ∷ after) (part_line p.name ++ rest)))
    (other_line q.name p.name rest others.0.0 plain others.0.1)
    ∙ named_among before after p rest plain others.1

-- ---- parts of a program

abbrev names_of : List TypedProcedure → List (List ℕ)
names_of qs = map (λ q. q.name) qs

-- a property of all names is one of each part's
abbrev IsNamedSo : (List ℕ → Bool) → PlainPart → Type 0
IsNamedSo test p = test p.name ≡ true

so_by : (test : List ℕ → Bool) (t : TypedProgram) (n : ℕ) (q : TypedProcedure) (o : Option TypedBlock) (more : List PlainPart) → test q.name ≡ true → AllByRecursion (IsNamedSo test) more →
    AllByRecursion (IsNamedSo test) (part_if t n q o ++ more)
so_by test t n q None more h k = k
so_by test t n q (Some b) more h k = (h, k)

named_so : (test : List ℕ → Bool) (t : TypedProgram) (n : ℕ) (qs : List TypedProcedure) → list_all test (names_of qs) ≡ true → AllByRecursion (IsNamedSo test) (parts_from_number t n qs)
named_so test t n [] h = tt
named_so test t n (q ∷ qs) h =
    let m = and_parts (test q.name) (list_all test (names_of qs)) h in
    so_by test t n q q.body (parts_from_number t (n + 1) qs) m.0 (named_so test t (n + 1) qs m.1)

-- no two parts have one name
abbrev AreOthers : List PlainPart → Type 0
AreOthers [] = Unit {0}
AreOthers (p ∷ ps) = AllByRecursion (λ q. p.name ≡ q.name → ⊥) ps × AreOthers ps

others_by : (t : TypedProgram) (n : ℕ) (q : TypedProcedure) (o : Option TypedBlock) (more : List PlainPart) → AllByRecursion (λ r. q.name ≡ r.name → ⊥) more → AreOthers more → AreOthers (part_if t n q o ++ more)
others_by t n q None more h k = k
others_by t n q (Some b) more h k = (h, k)

none_by : (x : List ℕ) (ys : List (List ℕ)) (t : Bool) → not (t || list_any (bytes_eq x) ys) ≡ true → (not (list_any (bytes_eq x) ys) ≡ true → list_all (λ y. not (bytes_eq x y)) ys ≡ true) →
    not t && list_all (λ y. not (bytes_eq x y)) ys ≡ true
none_by x ys true k h = absurd (false≢true k)
none_by x ys false k h = h k

none_same : (x : List ℕ) (ys : List (List ℕ)) → not (list_any (bytes_eq x) ys) ≡ true → list_all (λ y. not (bytes_eq x y)) ys ≡ true
none_same x [] h = refl
none_same x (y ∷ ys) h = none_by x ys (bytes_eq x y) h (none_same x ys)

others_named : (x : List ℕ) (ps : List PlainPart) → AllByRecursion (IsNamedSo (λ y. not (bytes_eq x y))) ps → AllByRecursion (λ r. x ≡ r.name → ⊥) ps
others_named x [] h = tt
others_named x (p ∷ ps) h =
    (λ e. false≢true (sym (not-true (bytes_eq x p.name) h.0) ∙ (bytes_eq-Decides x p.name).1 e), others_named x ps h.1)

parts_differ : (t : TypedProgram) (n : ℕ) (qs : List TypedProcedure) → all_differ bytes_eq (names_of qs) ≡ true → AreOthers (parts_from_number t n qs)
parts_differ t n [] h = tt
parts_differ t n (q ∷ qs) h =
    let m = and_parts (not (list_any (bytes_eq q.name) (names_of qs))) (all_differ bytes_eq (names_of qs)) h in
    others_by t n q q.body (parts_from_number t (n + 1) qs)
    (others_named q.name (parts_from_number t (n + 1) qs) (named_so (λ y. not (bytes_eq q.name y)) t (n + 1) qs (none_same q.name (names_of qs) m.0)))
    (parts_differ t (n + 1) qs m.1)

apart : (before after : List PlainPart) (p q : PlainPart) → AllByRecursion (λ r. q.name ≡ r.name → ⊥) (before ++ p ∷ after) → q.name ≡ p.name → ⊥
apart [] after p q h = h.0
apart (r ∷ before) after p q h = apart before after p q h.1

other_than : (before after : List PlainPart) (p : PlainPart) → AllByRecursion (IsNamedSo is_spelled) (before ++ p ∷ after) → AreOthers (before ++ p ∷ after) →
    IsPlain p.name × AllByRecursion (IsOther p) before
other_than [] after p spelled others = (plain_spelled p.name spelled.0, tt)
other_than (q ∷ before) after p spelled others =
    let k = other_than before after p spelled.1 others.1 in
    (k.0, ((plain_spelled q.name spelled.0, apart before after p q others.0), k.1))

-- a program that is resolved is typed
if_by : (t u : TypedProgram) (n : ℕ) → if_typed u n ≡ Some t → is_typed t ≡ true
if_by t u n e = let c = cond_some (is_typed (record u { entry = n })) (record u { entry = n }) t e in subst (λ (v : TypedProgram). is_typed v ≡ true) c.1 c.0

entered_by : (t u : TypedProgram) (o : Option ℕ) → option_and_then (if_typed u) o ≡ Some t → is_typed t ≡ true
entered_by t u None e = absurd (none-some t e)
entered_by t u (Some n) e = if_by t u n e

named_by : (t : TypedProgram) (m : Option ℕ) (o : Option TypedProgram) → option_and_then (λ u. option_and_then (if_typed u) m) o ≡ Some t → is_typed t ≡ true
named_by t m None e = absurd (none-some t e)
named_by t m (Some u) e = entered_by t u m e

typed_by : (t : TypedProgram) (m : Option ℕ) (o : Option TypedProgram) (b : Bool) → cond b (option_and_then (λ u. option_and_then (if_typed u) m) o) None ≡ Some t → is_typed t ≡ true
typed_by t m o true e = named_by t m o e
typed_by t m o false e = absurd (none-some t e)

resolved_typed : (ds : List Declaration) (entry : List ℕ) (t : TypedProgram) → resolved_program ds entry ≡ Some t → is_typed t ≡ true
resolved_typed ds entry t e = typed_by t (entry_number ds entry) (named_program ds) (are_sets ds && are_implementations ds) e

-- the text names the part
pub part_is_named : (ds : List Declaration) (entry : List ℕ) (t : TypedProgram) (before after : List PlainPart) (p : PlainPart) (rest : List ℕ) → resolved_program ds entry ≡ Some t →
    parts_of t ≡ before ++ p ∷ after → part_in (parts_of t) (part_line p.name ++ rest) ≡ Some (p, rest)
part_is_named ds entry t before after p rest e split =
    let typed : is_typed t ≡ true = resolved_typed ds entry t e in
    let shape : has_shape t ≡ true = (and_parts (has_shape t) (keeps_typing t && has_entry t) typed).0 in
    let procs = (and_parts (are_names (map (λ v. v.name) t.globals)) (are_names (names_of t.procs) && list_all (is_procedure_shaped t.globals t.procs) t.procs) shape).1 in
    let names : are_names (names_of t.procs) ≡ true = (and_parts (are_names (names_of t.procs)) (list_all (is_procedure_shaped t.globals t.procs) t.procs) procs).0 in
    let m = and_parts (list_all is_spelled (names_of t.procs)) (all_differ bytes_eq (names_of t.procs)) names in
    let spelled = subst (AllByRecursion (IsNamedSo is_spelled)) split (named_so is_spelled t 0 t.procs m.0) in
    let others = subst AreOthers split (parts_differ t 0 t.procs m.1) in
    let k = other_than before after p spelled others in
    ap (λ (ps : List PlainPart). part_in ps (part_line p.name ++ rest)) split ∙ named_among before after p rest k.0 k.1
