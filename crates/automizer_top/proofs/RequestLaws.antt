-- Words ask for one task at most, with one set of settings.
use Rattle.std.proofs.Common.{◌≡◌, ℕ, ◌≤◌, List, [], ◌∷◌, Bool, Option, None, Some, ap, refl, sym, ◌∙◌, arith}
use Rattle.std.specs.Prelude.{codes, if◌then◌else◌, option_map, option_and_then, nat_le}
use Rattle.std.specs.Fmt.{decimal}
use Rattle.std.specs.Str.{bytes_eq}
use Rattle.std.specs.Str.Parse.{digits_value}
use Rattle.std.proofs.lemmas.Bool.{and_parts, leb-true}
use Rattle.std.proofs.lemmas.Option.{same_Some, none-some, cond_some}
use Rattle.clap.specs.Kinds.{Kinds}
use Rattle.clap.specs.Walk.{Row, first_of}
use Rattle.text_reports.specs.CommandWords.Rules.{is_given}
use Rattle.automizer_top.specs.CommandLine.{Task, Check, Replay, Print, Verify, Big, Lasso, Ranked, Settings, Request, is_number_in, number_in_bounds, go_together, task_of, settings_of, request_of, request_by, faults, argument_values, requested}
use Rattle.automizer_top.specs.Report.{Ask}

-- the name of the program text
abbrev pub program_of : Task → List ℕ
program_of (Check program second) = program
program_of (Replay program second) = program
program_of (Print program) = program
program_of (Verify program) = program
program_of (Big count) = []
program_of (Lasso program second) = program
program_of (Ranked program second) = program

abbrev pub kind_of : Task → ℕ
kind_of (Check program second) = 0
kind_of (Replay program second) = 1
kind_of (Print program) = 2
kind_of (Verify program) = 3
kind_of (Big count) = 4
kind_of (Lasso program second) = 5
kind_of (Ranked program second) = 6

one_request : (words : List (List ℕ)) (q r : Request) → requested words ≡ Some q → requested words ≡ Some r → q ≡ r
one_request words q r e f = same_Some q r (sym e ∙ f)

pub same_task : (words : List (List ℕ)) (s u : Settings) (x y : Task) → Ask words s x → Ask words u y → x ≡ y
same_task words s u x y e f = ap (λ (r : Request). r.task) (one_request words (record { task = x; settings = s }) (record { task = y; settings = u }) e f)

pub same_settings : (words : List (List ℕ)) (s u : Settings) (x y : Task) → Ask words s x → Ask words u y → s ≡ u
same_settings words s u x y e f = ap (λ (r : Request). r.settings) (one_request words (record { task = x; settings = s }) (record { task = y; settings = u }) e f)

-- two different tasks are not asked for
pub only_one : (words : List (List ℕ)) (s u : Settings) (x y : Task) → Ask words s x → Ask words u y → (kind_of x ≡ kind_of y → ⊥) → ⊥
only_one words s u x y e f differ = differ (ap kind_of (same_task words s u x y e f))

-- words that ask for nothing do not ask for a task
pub nothing_asked : (words : List (List ℕ)) (s : Settings) (x : Task) → requested words ≡ None → Ask words s x → ⊥
nothing_asked words s x none e = none-some (record { task = x; settings = s }) (sym none ∙ e)

-- ---- settings are in their ranges

number_within : (least most : ℕ) (text : List ℕ) (n : ℕ) → number_in_bounds least most text ≡ Some n → n ≤ most
number_within least most text n e =
    let v = digits_value 10 text in
    let c = cond_some (is_number_in least most text) v n e in
    let p = and_parts (bytes_eq (decimal v) text) _ c.0 in
    let q = and_parts (nat_le least v) _ p.1 in
    let below : v ≤ most = leb-true v most q.1 in
    omega (arith, below, c.1)

option_map_some : {X Y : Type 0} (f : X → Y) (o : Option X) (y : Y) → option_map f o ≡ Some y → (x : X) × (o ≡ Some x) × (f x ≡ y)
option_map_some f None y e = absurd (none-some y e)
option_map_some f (Some x) y e = (x, refl, same_Some (f x) y e)

settings_by : (o : Option Settings) (t : Option Task) (r : Request) →
    option_and_then (λ settings. option_map (λ task. record { task = task; settings = settings }) t) o ≡ Some r → o ≡ Some r.settings
settings_by None t r e = absurd (none-some r e)
settings_by (Some s) t r e =
    let m = option_map_some (λ task. record { task = task; settings = s }) t r e in
    ap (λ (q : Request). Some q.settings) m.2

rounds_by : (entry : Option (List ℕ)) (rounds workers depth : Option ℕ) (modular : Option Bool) (reuse : Option (List ℕ)) (s : Settings) →
    option_and_then (λ e. option_and_then (λ n. option_and_then (λ w. option_and_then (λ d. option_and_then (λ m. if go_together m reuse then
    Some (record { entry = e; limits = record { rounds = n; workers = w; depth = d }; modular = m; reuse = reuse }) else None) modular) depth) workers) rounds) entry ≡ Some s →
    rounds ≡ Some s.limits.rounds
rounds_by None rounds workers depth modular reuse s e = absurd (none-some s e)
rounds_by (Some x) None workers depth modular reuse s e = absurd (none-some s e)
rounds_by (Some x) (Some n) None depth modular reuse s e = absurd (none-some s e)
rounds_by (Some x) (Some n) (Some w) None modular reuse s e = absurd (none-some s e)
rounds_by (Some x) (Some n) (Some w) (Some d) None reuse s e = absurd (none-some s e)
rounds_by (Some x) (Some n) (Some w) (Some d) (Some m) reuse s e =
    let c = cond_some (go_together m reuse) (record { entry = x; limits = record { rounds = n; workers = w; depth = d }; modular = m; reuse = reuse }) s e in
    ap (λ (u : Settings). Some u.limits.rounds) c.1

number_by : (text : Option (List ℕ)) (n : ℕ) → option_and_then (number_in_bounds 1 100000) text ≡ Some n → n ≤ 100000
number_by None n e = absurd (none-some n e)
number_by (Some text) n e = number_within 1 100000 text n e

abbrev number_at : ℕ → ℕ → List ℕ → List Row → Option ℕ
number_at least most id rows = option_and_then (number_in_bounds least most) (first_of id rows)

request_rounds : (rows : List Row) (r : Request) → request_of rows ≡ Some r → r.settings.limits.rounds ≤ 100000
request_rounds rows r e =
    number_by (first_of (codes "rounds") rows) r.settings.limits.rounds
    (rounds_by (first_of (codes "entry") rows) (number_at 1 100000 (codes "rounds") rows) (number_at 1 64 (codes "workers") rows) (number_at 0 64 (codes "depth") rows)
    (is_given (codes "modular") rows) (first_of (codes "reuse") rows) r.settings (settings_by (settings_of rows) (task_of rows) r e))

taken_request : (faults : Kinds) (rows : List Row) (r : Request) → request_by faults rows ≡ Some r → r.settings.limits.rounds ≤ 100000
taken_request [] rows r e = request_rounds rows r e
taken_request (k ∷ ks) rows r e = absurd (none-some r e)

pub rounds_fit : (words : List (List ℕ)) (r : Request) → requested words ≡ Some r → r.settings.limits.rounds ≤ 100000
unfolding requested
rounds_fit words r e = taken_request (faults words) (argument_values words) r e
