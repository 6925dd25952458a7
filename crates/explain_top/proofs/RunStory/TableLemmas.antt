-- Items by their places.
use Rattle.std.proofs.Common.{◌≡◌, ℕ, ◌+◌, ◌<◌, length, drop, get_or, append_assoc, Bool, true, false, cond, ◌&&◌, eqb, List, [], ◌∷◌, ◌++◌, map, Option, None, Some, refl, ap, sym, ◌∙◌, subst}
use Rattle.std.specs.Prelude.{codes, is_some}
use Rattle.std.specs.Option.{option_or, option_map}
use Rattle.std.specs.Str.{bytes_eq}
use Rattle.std.proofs.lemmas.Bool.{false≢true, eqb-true, eq-eqb}
use Rattle.std.specs.Borrow.{Bor}
use Rattle.indexmap.specs.IndexMap.{get, get_by}
use Rattle.boogie_tree.specs.declared.span.Span.{Span}
use Rattle.boogie_tree.specs.declared.tree.Decl.{Decl}
use Rattle.boogie_tree.specs.declared.tree.Proc.{Proc}
use Rattle.boogie_tree.specs.Tree.{Guard, Invariant, Statement, If, While, Block, Procedure, Declaration, Const, Global, Axiom, Declares, Implements}
use Rattle.boogie_tree.specs.View as view
use Rattle.boogie_types.specs.Sorted.{implementations_of, procedures_of, first_named}
use Rattle.explain_top.specs.declared.run_story.sources.Source.{Source}
use Rattle.explain_top.specs.declared.run_story.tables.Heading as code
use Rattle.explain_top.specs.RunStory.Items.{Item, Heading, statement_items, block_items, condition_item, heading, headings}
use Rattle.explain_top.specs.RunStory.Seen.{item_of, statement_item}
use Rattle.explain_top.specs.RunStory.Sites.{first_at, same_span}
use Rattle.explain_top.specs.RunStory.Tables.{Placed, AddsItems, placed_at, NamedProcedures, named_in, AddsNamed, HasImplementations, heading_of}
use Rattle.explain_top.proofs.RunStory.LineLemmas.{next_split}

or_assoc : (a b c : Option Item) → option_or (option_or a b) c ≡ option_or a (option_or b c)
or_assoc None b c = refl
or_assoc (Some i) b c = refl

or_none : (a : Option Item) → a ≡ option_or a None
or_none None = refl
or_none (Some i) = refl

find_step : (b : Bool) (i : Item) (xs ys : Option Item) → cond b (Some i) (option_or xs ys) ≡ option_or (cond b (Some i) xs) ys
find_step true i xs ys = refl
find_step false i xs ys = refl

pub first_both : (at : Span) (xs ys : List Item) → first_at at (xs ++ ys) ≡ option_or (first_at at xs) (first_at at ys)
first_both at [] ys = refl
first_both at (x ∷ xs) ys =
    ap (λ (o : Option Item). cond (same_span x.at at) (Some x) o) (first_both at xs ys)
    ∙ find_step (same_span x.at at) x (first_at at xs) (first_at at ys)

-- no item
pub adds_nothing : (a : Placed) → AddsItems a [] a
adds_nothing a = λ at. or_none (placed_at a at)

-- some items, and then others
pub adds_then : (a b c : Placed) (xs ys : List Item) → AddsItems a xs b → AddsItems b ys c → AddsItems a (xs ++ ys) c
adds_then a b c xs ys p q = λ at.
    q at ∙ ap (λ (o : Option Item). option_or o (first_at at ys)) (p at)
    ∙ or_assoc (placed_at a at) (first_at at xs) (first_at at ys)
    ∙ ap (λ (o : Option Item). option_or (placed_at a at) o) (sym (first_both at xs ys))

-- ---- some items after others

-- With these items more there are those of before with all of these.
abbrev pub LeadsTo : Placed → List Item → Placed → List Item → Type 0
LeadsTo items rest old all = (at : Span) → option_or (placed_at items at) (first_at at rest) ≡ option_or (placed_at old at) (first_at at all)

pub items_step : (a b old : Placed) (is ks rest all : List Item) → ks ≡ is ++ rest → LeadsTo a ks old all → AddsItems a is b → LeadsTo b rest old all
items_step a b old is ks rest all split h more = λ at.
    ap (λ (o : Option Item). option_or o (first_at at rest)) (more at)
    ∙ or_assoc (placed_at a at) (first_at at is) (first_at at rest)
    ∙ ap (λ (o : Option Item). option_or (placed_at a at) o) (sym (first_both at is rest))
    ∙ ap (λ (ls : List Item). option_or (placed_at a at) (first_at at ls)) (sym split)
    ∙ h at

pub items_end : (a b : Placed) (ks all : List Item) → ks ≡ [] → LeadsTo b ks a all → AddsItems a all b
items_end a b ks all none h = λ at.
    or_none (placed_at b at) ∙ ap (λ (ls : List Item). option_or (placed_at b at) (first_at at ls)) (sym none) ∙ h at

-- ---- one item

parts_true : (x y : Bool) → (x && y) ≡ true → (x ≡ true) × (y ≡ true)
parts_true true true e = (refl, refl)
parts_true true false e = absurd (false≢true e)
parts_true false y e = absurd (false≢true e)

pub one_place : (a b : Span) → same_span a b ≡ true → a ≡ b
one_place a b e =
    let both = parts_true (eqb a.line b.line) (eqb a.col b.col) e in
    λ i. record { line = eqb-true a.line b.line both.0 i; col = eqb-true a.col b.col both.1 i }

some_there : (o : Option Source) → is_some o ≡ false → o ≡ None
some_there None e = refl
some_there (Some s) e = absurd (false≢true (sym e))

none_there : (o : Option Source) (p : Option Item) → is_some o ≡ true → option_map item_of o ≡ option_or (option_map item_of o) p
none_there None p e = absurd (false≢true e)
none_there (Some s) p e = refl

-- an item where one stands already
pub item_there : (items : Placed) (i : Item) (key : Span) → key ≡ i.at → is_some (get same_span items key) ≡ true → AddsItems items (i ∷ []) items
item_there items i key e there = λ at. by at (same_span i.at at) refl
  where
    by : (at : Span) (same : Bool) → same_span i.at at ≡ same → placed_at items at ≡ option_or (placed_at items at) (cond same (Some i) None)
    by at false k = or_none (placed_at items at)
    by at true k = none_there (get same_span items at) (Some i) (ap (λ (s : Span). is_some (get same_span items s)) (sym (e ∙ one_place i.at at k)) ∙ there)

placed_step : (same : Bool) (s : Source) (o : Option Source) → (same ≡ true → o ≡ None) → option_map item_of (cond same (Some s) o) ≡ option_or (option_map item_of o) (cond same (Some (item_of s)) None)
placed_step true s o h = ap (λ (p : Option Source). option_or (option_map item_of p) (Some (item_of s))) (sym (h refl))
placed_step false s o h = or_none (option_map item_of o)

-- an item where none stands yet
pub item_new : (old new : Placed) (s : Source) (key : Span) → key ≡ (item_of s).at → is_some (get same_span old key) ≡ false →
    ((at : Span) → get same_span new at ≡ cond (same_span key at) (Some s) (get same_span old at)) → AddsItems old (item_of s ∷ []) new
item_new old new s key e none put = λ at.
    ap (option_map item_of) (put at)
    ∙ placed_step (same_span key at) s (get same_span old at) (λ k. ap (get same_span old) (sym (one_place key at k)) ∙ some_there (get same_span old key) none)
    ∙ ap (λ (k : Span). option_or (placed_at old at) (cond (same_span k at) (Some (item_of s)) None)) e

-- ---- implementations by their names

eqb_turned : (a b : ℕ) → eqb a b ≡ eqb b a
eqb_turned a b = by (eqb a b) (eqb b a) refl refl
  where
    by : (x y : Bool) → eqb a b ≡ x → eqb b a ≡ y → x ≡ y
    by true true e f = refl
    by false false e f = refl
    by true false e f = absurd (false≢true (sym f ∙ eq-eqb b a (sym (eqb-true a b e))))
    by false true e f = absurd (false≢true (sym e ∙ eq-eqb a b (sym (eqb-true b a f))))

pub bytes_turned : (xs ys : List ℕ) → bytes_eq xs ys ≡ bytes_eq ys xs
bytes_turned [] [] = refl
bytes_turned [] (y ∷ ys) = refl
bytes_turned (x ∷ xs) [] = refl
bytes_turned (x ∷ xs) (y ∷ ys) = λ i. eqb_turned x y i && bytes_turned xs ys i

pub one_name : (xs ys : List ℕ) → bytes_eq xs ys ≡ true → xs ≡ ys
one_name [] [] e = refl
one_name [] (y ∷ ys) e = absurd (false≢true e)
one_name (x ∷ xs) [] e = absurd (false≢true e)
one_name (x ∷ xs) (y ∷ ys) e =
    let both = parts_true (eqb x y) (bytes_eq xs ys) e in
    λ i. eqb-true x y both.0 i ∷ one_name xs ys both.1 i

-- ---- statements

-- an if: itself, and its branches
pub if_added : (s : Statement) (at : Span) (g : Guard) (a b : Block) (i j k l : Placed) → s ≡ If at g a b →
    AddsItems i (statement_item s ∷ []) j → AddsItems j (block_items a) k → AddsItems k (block_items b) l → AddsItems i (statement_items s) l
if_added s at g a b i j k l e p q r =
    subst (λ (u : Statement). AddsItems i (statement_item u ∷ []) j → AddsItems i (statement_items u) l) (sym e)
    (λ p. adds_then i j l (statement_item (If at g a b) ∷ []) (block_items a ++ block_items b) p (adds_then j k l (block_items a) (block_items b) q r)) p

-- a loop: itself, its invariants, and its body
pub while_added : (s : Statement) (at : Span) (g : Guard) (is : List Invariant) (b : Block) (i j k l : Placed) → s ≡ While at g is b →
    AddsItems i (statement_item s ∷ []) j → AddsItems j (map (condition_item (codes "invariant")) is) k → AddsItems k (block_items b) l → AddsItems i (statement_items s) l
while_added s at g is b i j k l e p q r =
    subst (λ (u : Statement). AddsItems i (statement_item u ∷ []) j → AddsItems i (statement_items u) l) (sym e)
    (λ p. adds_then i j l (statement_item (While at g is b) ∷ []) (map (condition_item (codes "invariant")) is ++ block_items b) p (adds_then j k l (map (condition_item (codes "invariant")) is) (block_items b) q r)) p

-- ---- from nothing on

abbrev pub LeadsToAll : Placed → List Item → List Item → Type 0
LeadsToAll items rest all = (at : Span) → option_or (placed_at items at) (first_at at rest) ≡ first_at at all

pub all_step : (a b : Placed) (is ks rest all : List Item) → ks ≡ is ++ rest → LeadsToAll a ks all → AddsItems a is b → LeadsToAll b rest all
all_step a b is ks rest all split h more = λ at.
    ap (λ (o : Option Item). option_or o (first_at at rest)) (more at)
    ∙ or_assoc (placed_at a at) (first_at at is) (first_at at rest)
    ∙ ap (λ (o : Option Item). option_or (placed_at a at) o) (sym (first_both at is rest))
    ∙ ap (λ (ls : List Item). option_or (placed_at a at) (first_at at ls)) (sym split)
    ∙ h at

pub all_end : (b : Placed) (ks all : List Item) → ks ≡ [] → LeadsToAll b ks all → (at : Span) → placed_at b at ≡ first_at at all
all_end b ks all none h = λ at.
    or_none (placed_at b at) ∙ ap (λ (ls : List Item). option_or (placed_at b at) (first_at at ls)) (sym none) ∙ h at

-- ---- procedures by their names

named_or_assoc : (a b c : Option Procedure) → option_or (option_or a b) c ≡ option_or a (option_or b c)
named_or_assoc None b c = refl
named_or_assoc (Some p) b c = refl

named_or_none : (a : Option Procedure) → a ≡ option_or a None
named_or_none None = refl
named_or_none (Some p) = refl

named_step : (b : Bool) (p : Procedure) (xs ys : Option Procedure) → cond b (Some p) (option_or xs ys) ≡ option_or (cond b (Some p) xs) ys
named_step true p xs ys = refl
named_step false p xs ys = refl

named_both : (name : List ℕ) (ps qs : List Procedure) → first_named name (ps ++ qs) ≡ option_or (first_named name ps) (first_named name qs)
named_both name [] qs = refl
named_both name (p ∷ ps) qs =
    ap (λ (o : Option Procedure). cond (bytes_eq name p.name.text) (Some p) o) (named_both name ps qs)
    ∙ named_step (bytes_eq name p.name.text) p (first_named name ps) (first_named name qs)

abbrev pub LeadsToNamed : NamedProcedures → List Procedure → List Procedure → Type 0
LeadsToNamed found rest all = (name : List ℕ) → option_or (named_in found name) (first_named name rest) ≡ first_named name all

pub named_more : (a b : NamedProcedures) (ps ks rest all : List Procedure) → ks ≡ ps ++ rest → LeadsToNamed a ks all → AddsNamed a ps b → LeadsToNamed b rest all
named_more a b ps ks rest all split h more = λ name.
    ap (λ (o : Option Procedure). option_or o (first_named name rest)) (more name)
    ∙ named_or_assoc (named_in a name) (first_named name ps) (first_named name rest)
    ∙ ap (λ (o : Option Procedure). option_or (named_in a name) o) (sym (named_both name ps rest))
    ∙ ap (λ (ls : List Procedure). option_or (named_in a name) (first_named name ls)) (sym split)
    ∙ h name

pub named_end : (b : NamedProcedures) (ks all : List Procedure) → ks ≡ [] → LeadsToNamed b ks all → HasImplementations all b
named_end b ks all none h = λ name.
    named_or_none (named_in b name) ∙ ap (λ (ls : List Procedure). option_or (named_in b name) (first_named name ls)) (sym none) ∙ h name

-- implementations of the first declaration, and of the others
pub implementations_split : (d : Declaration) (ds : List Declaration) → implementations_of (d ∷ ds) ≡ implementations_of (d ∷ []) ++ implementations_of ds
implementations_split (Const x) ds = refl
implementations_split (Global x) ds = refl
implementations_split (Axiom at e) ds = refl
implementations_split (Declares p) ds = refl
implementations_split (Implements p) ds = refl

pub procedures_split : (d : Declaration) (ds : List Declaration) → procedures_of (d ∷ ds) ≡ procedures_of (d ∷ []) ++ procedures_of ds
procedures_split (Const x) ds = refl
procedures_split (Global x) ds = refl
procedures_split (Axiom at e) ds = refl
procedures_split (Declares p) ds = refl
procedures_split (Implements p) ds = refl

-- one with a name that is there already
abbrev pub Held : Type 0
Held = Option (Bor Proc)

seen_none : (o : Held) → is_some o ≡ false → o ≡ None
seen_none None e = refl
seen_none (Some p) e = absurd (false≢true (sym e))

abbrev pub seen : Held → Option Procedure
seen o = option_map (λ (p : Bor Proc). view.procedure p.now) o

seen_some : (o : Held) (p : Option Procedure) → is_some o ≡ true → seen o ≡ option_or (seen o) p
seen_some None p e = absurd (false≢true e)
seen_some (Some q) p e = refl

abbrev by_name : NamedProcedures → List ℕ → Held
by_name m name = get_by (λ (x : Bor (List ℕ)). bytes_eq name x.now) m

pub name_there : (m : NamedProcedures) (p : Procedure) (key : List ℕ) → key ≡ p.name.text → is_some (by_name m key) ≡ true → AddsNamed m (p ∷ []) m
name_there m p key e there = λ name. by name (bytes_eq name p.name.text) refl
  where
    by : (name : List ℕ) (same : Bool) → bytes_eq name p.name.text ≡ same → named_in m name ≡ option_or (named_in m name) (cond same (Some p) None)
    by name false k = named_or_none (named_in m name)
    by name true k = seen_some (by_name m name) (Some p) (ap (λ (n : List ℕ). is_some (by_name m n)) (one_name name p.name.text k ∙ sym e) ∙ there)

name_put : (same : Bool) (p : Bor Proc) (o : Held) → (same ≡ true → o ≡ None) → seen (cond same (Some p) o) ≡ option_or (seen o) (cond same (Some (view.procedure p.now)) None)
name_put true p o h = ap (λ (q : Held). option_or (seen q) (Some (view.procedure p.now))) (sym (h refl))
name_put false p o h = named_or_none (seen o)

pub name_new : (old new : NamedProcedures) (p : Bor Proc) (key : List ℕ) → key ≡ p.now.name.text → is_some (by_name old key) ≡ false →
    ((name : List ℕ) → by_name new name ≡ cond (bytes_eq key name) (Some p) (by_name old name)) → AddsNamed old (view.procedure p.now ∷ []) new
name_new old new p key e none put = λ name.
    ap seen (put name)
    ∙ name_put (bytes_eq key name) p (by_name old name) (λ k. ap (by_name old) (sym (one_name key name k)) ∙ seen_none (by_name old key) none)
    ∙ ap (λ (b : Bool). option_or (named_in old name) (cond b (Some (view.procedure p.now)) None)) (bytes_turned key name)
    ∙ ap (λ (n : List ℕ). option_or (named_in old name) (cond (bytes_eq name n) (Some (view.procedure p.now)) None)) e

-- ---- the procedures

map_both : (f : Procedure → Heading) (ps qs : List Procedure) → map f (ps ++ qs) ≡ map f ps ++ map f qs
map_both f [] qs = refl
map_both f (p ∷ ps) qs = ap (λ (hs : List Heading). f p ∷ hs) (map_both f ps qs)

pub headings_next : (ds : List Decl) (i : ℕ) (d : Decl) (old new : List code.Heading) → i < length ds → d ≡ get_or ds i d →
    map heading_of old ++ map (heading (map view.declaration ds)) (procedures_of (map view.declaration (drop i ds))) ≡ headings (map view.declaration ds) →
    map heading_of new ≡ map heading_of old ++ map (heading (map view.declaration ds)) (procedures_of (view.declaration d ∷ [])) →
    map heading_of new ++ map (heading (map view.declaration ds)) (procedures_of (map view.declaration (drop (i + 1) ds))) ≡ headings (map view.declaration ds)
headings_next ds i d old new h e here more =
    let f = heading (map view.declaration ds) in
    let rest = map view.declaration (drop (i + 1) ds) in
    ap (λ (hs : List Heading). hs ++ map f (procedures_of rest)) more
    ∙ append_assoc (map heading_of old) (map f (procedures_of (view.declaration d ∷ []))) (map f (procedures_of rest))
    ∙ ap (λ (hs : List Heading). map heading_of old ++ hs) (sym (map_both f (procedures_of (view.declaration d ∷ [])) (procedures_of rest)))
    ∙ ap (λ (ps : List Procedure). map heading_of old ++ map f ps) (sym (procedures_split (view.declaration d) rest))
    ∙ ap (λ (es : List Decl). map heading_of old ++ map f (procedures_of (map view.declaration es))) (sym (next_split ds i d h e))
    ∙ here
