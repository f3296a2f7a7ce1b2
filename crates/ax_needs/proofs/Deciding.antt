-- The test whether a policy covers each leaf at and below a path, by what it decides of every one of them: it tells what is
-- so of any policy, and all that is so of one whose rules rise and are those of paths.
use Rattle.std.proofs.Common.{◌≡◌, ℕ, ◌+◌, ◌<◌, ◌≤◌, zero, suc, List, [], ◌∷◌, ◌++◌, length, take, drop, Bool, true, false, cond}
use Rattle.std.proofs.Common.{◌&&◌, ◌||◌, not, Option, Some, None, refl, sym, ap, ◌∙◌, arith, append_assoc}
use Rattle.std.specs.List.{list_all}
use Rattle.std.specs.Option.{unwrap_or}
use Rattle.std.specs.Ordering.{is_eq}
use Rattle.std.specs.Str.{bytes_eq}
use Rattle.std.proofs.Math.Seq.{take-append_seam, take-length, take-append-add}
use Rattle.std.proofs.lemmas.Bool.{and_from, and_parts, false≢true}
use Rattle.std.proofs.lemmas.List.{length-append, take-append-drop, take-append-le, take_all}
use Rattle.std.proofs.lemmas.Map.Text.{is_eq-slice_cmp}
use Rattle.std.proofs.lemmas.Slice.Eq.{bytes_eq-Decides}
use Rattle.ax_mean.specs.declared.query.Order.{Order}
use Rattle.ax_mean.specs.declared.query.Step.{Step}
use Rattle.ax_mean.specs.declared.query.Step.TheVariants.{Name}
use Rattle.ax_tree.specs.declared.members.Member.{Member}
use Rattle.ax_policy.specs.declared.policy.Policy.{Policy}
use Rattle.ax_policy.specs.Covering.{Covers, CoversAll, indexes}
use Rattle.ax_policy.specs.Deciding.{begins_with, decision, is_all_covered, is_covered, is_kept, longest}
use Rattle.ax_policy.specs.Paths.{either, escaped, mark_text, rule_text, step_text, steps_text}
use Rattle.ax_policy.specs.Rules.{under}
use Rattle.ax_policy.proofs.Orders.{orderable, orderable_is}
use Rattle.ax_needs.proofs.Fronts.{IsFront, front_in_text, front_of_text}
use Rattle.ax_needs.proofs.ReadRules.{AreInOrder, AreSpelled, IsBefore, IsSpelled, Rises}

-- ---- one leaf

abbrev order_by : List Step → Order
order_by path = record { path = path; down = false }

pub covered : (policy : Policy) (path : List Step) → is_covered policy path ≡ true → Covers policy path
covered policy path is = orderable policy (order_by path ∷ []) is

pub covers_is : (policy : Policy) (path : List Step) → Covers policy path → is_covered policy path ≡ true
covers_is policy path covers = orderable_is policy (order_by path ∷ []) covers

-- ---- what stands under a text

abbrev flag : Bool → Option Bool
flag b = Some b

abbrev no_flag : Option Bool
no_flag = None

same_flag : (a b : Bool) → flag a ≡ flag b → a ≡ b
same_flag a b e = ap (λ o. unwrap_or o false) e

included_is : (o : Option Bool) → unwrap_or o false ≡ true → o ≡ flag true
included_is None e = absurd (false≢true e)
included_is (Some b) e = ap Some e

same_bytes : (a b : List ℕ) → bytes_eq a b ≡ true → a ≡ b
same_bytes a b e = (bytes_eq-Decides a b).0 e

bytes_eq_same : (a : List ℕ) → bytes_eq a a ≡ true
bytes_eq_same a = (bytes_eq-Decides a a).1 refl

begins_is : (steps : List Step) (text rest : List ℕ) → text ≡ steps_text steps ++ rest → begins_with steps text ≡ true
begins_is steps text rest e =
    ap (λ l. bytes_eq (take (length (steps_text steps)) l) (steps_text steps)) e
    ∙ ap (λ l. bytes_eq l (steps_text steps)) (take-append_seam (steps_text steps) rest)
    ∙ bytes_eq_same (steps_text steps)

begins_so : (steps : List Step) (text : List ℕ) → begins_with steps text ≡ true
    → text ≡ steps_text steps ++ drop (length (steps_text steps)) text
begins_so steps text b =
    sym (take-append-drop (length (steps_text steps)) text)
    ∙ ap (λ l. l ++ drop (length (steps_text steps)) text) (same_bytes _ _ b)

kept_by : (included b : Bool) → (included || not b) ≡ true → b ≡ true → included ≡ true
kept_by true b kept begins = refl
kept_by false true kept begins = kept
kept_by false false kept begins = begins

-- what is so of all rules is so of the one under a text
under_kept : (steps : List Step) (text : List ℕ) (rules : List (Member Bool)) (b : Bool)
    → list_all (is_kept steps) rules ≡ true → under text rules ≡ flag b → begins_with steps text ≡ true → b ≡ true
under_kept steps text [] b kept stands begins = absurd (let e : ⊥ = cc in e)
under_kept steps text (first ∷ rest) b kept stands begins =
    by_test (bytes_eq text first.name) refl (and_parts (is_kept steps first) (list_all (is_kept steps) rest) kept)
    (λ k u. under_kept steps text rest b k u begins) stands
  where
    by_test : (c : Bool) → bytes_eq text first.name ≡ c
        → (is_kept steps first ≡ true) × (list_all (is_kept steps) rest ≡ true)
        → (list_all (is_kept steps) rest ≡ true → under text rest ≡ flag b → b ≡ true)
        → cond c (flag first.value) (under text rest) ≡ flag b → b ≡ true
    by_test true same k later u =
        sym (same_flag first.value b u)
        ∙ kept_by first.value (begins_with steps first.name) k.0
        (ap (begins_with steps) (sym (same_bytes text first.name same)) ∙ begins)
    by_test false other k later u = later k.1 u

-- ---- the longest rule

-- of the fronts of a path the first so many are those of its own front
longest_of_front : (rules : List (Member Bool)) (path more : List Step) (most : ℕ) → most ≤ length path
    → longest rules (path ++ more) most ≡ longest rules path most
longest_of_front rules path more zero low = refl
longest_of_front rules path more (suc most) low =
    ap (λ l. either (under (rule_text l true) rules) (longest rules (path ++ more) most)) (take-append-le (suc most) path more low)
    ∙ ap (either (under (rule_text (take (suc most) path) true) rules))
    (longest_of_front rules path more most (omega (arith, low)))

-- a rule with `/*` for the whole path is the longest
longest_here : (rules : List (Member Bool)) (path : List Step) (b : Bool) → under (rule_text path true) rules ≡ flag b
    → longest rules path (length path) ≡ flag b
longest_here rules [] b stands = stands
longest_here rules (step ∷ path) b stands =
    ap (λ l. either (under (rule_text l true) rules) (longest rules (step ∷ path) (length path)))
    (take-length (step ∷ path))
    ∙ ap (λ o. either o (longest rules (step ∷ path) (length path))) stands

-- ---- what the test tells is so

module _ (rules : List (Member Bool)) (path : List Step) (long : longest rules path (length path) ≡ flag true)
    (kept : list_all (is_kept path) rules ≡ true) where
  -- where there is a rule for a path that begins so, it is an included one
  included : (more : List Step) (all : Bool) (o other : Option Bool) → under (rule_text (path ++ more) all) rules ≡ o
      → other ≡ flag true → either o other ≡ flag true
  included more all None other stands later = later
  included more all (Some b) other stands later =
      ap flag (under_kept path (rule_text (path ++ more) all) rules b kept stands
      (begins_is path (rule_text (path ++ more) all) (rule_text more all) (front_in_text path more all)))

  longer_fronts : (more : List Step) (count most : ℕ) → most ≡ length path + count
      → longest rules (path ++ more) most ≡ flag true
  longer_fronts more zero most is =
      ap (longest rules (path ++ more)) (omega (arith, is)) ∙ longest_of_front rules path more (length path) (omega arith) ∙ long
  longer_fronts more (suc count) zero is = absurd (omega (arith, is))
  longer_fronts more (suc count) (suc most) is =
      let front : take (suc most) (path ++ more) ≡ path ++ take (suc count) more =
      ap (λ n. take n (path ++ more)) is ∙ take-append-add path more (suc count) in
      ap (λ l. either (under (rule_text l true) rules) (longest rules (path ++ more) most)) front
      ∙ included (take (suc count) more) true (under (rule_text (path ++ take (suc count) more) true) rules)
      (longest rules (path ++ more) most) refl (longer_fronts more count most (omega (arith, is)))

  all_decided : (more : List Step) → decision rules (path ++ more) ≡ flag true
  all_decided more =
      included more false (under (rule_text (path ++ more) false) rules)
      (longest rules (path ++ more) (length (path ++ more))) refl
      (longer_fronts more (length more) (length (path ++ more)) (length-append path more))

pub all_covered : (policy : Policy) (path : List Step) → is_all_covered policy path ≡ true → CoversAll policy path
all_covered policy path is more =
    let parts = and_parts (indexes policy && unwrap_or (longest policy.rules path (length path)) false)
    (list_all (is_kept path) policy.rules) is in
    let firsts = and_parts (indexes policy) (unwrap_or (longest policy.rules path (length path)) false) parts.0 in
    covered policy (path ++ more)
    (and_from (indexes policy) (unwrap_or (decision policy.rules (path ++ more)) false) firsts.0
    (ap (λ o. unwrap_or o false)
    (all_decided policy.rules path (included_is (longest policy.rules path (length path)) firsts.1) parts.1 more)))

-- ---- a name that no rule has

abbrev as_many : ℕ → List ℕ
as_many zero = []
as_many (suc n) = 97 ∷ as_many n

abbrev total : List (Member Bool) → ℕ
total [] = 0
total (first ∷ rest) = length first.name + total rest

abbrev fresh : List (Member Bool) → Step
fresh rules = Name (as_many (total rules))

escaped_length : (n : ℕ) → length (escaped (as_many n)) ≡ n
escaped_length zero = refl
escaped_length (suc n) = ap suc (escaped_length n)

fresh_long : (path : List Step) (n : ℕ) (all : Bool) → n < length (rule_text (path ++ Name (as_many n) ∷ []) all)
fresh_long path n all =
    omega (
      arith,
      ap length (front_in_text path (Name (as_many n) ∷ []) all),
      length-append (steps_text path) (rule_text (Name (as_many n) ∷ []) all),
      length-append (steps_text (Name (as_many n) ∷ [])) (mark_text all),
      length-append (step_text (Name (as_many n))) [],
      length-append (47 ∷ 34 ∷ escaped (as_many n)) (34 ∷ []),
      escaped_length n,
    )

under_long : (text : List ℕ) (rules : List (Member Bool)) → total rules < length text → under text rules ≡ no_flag
under_long text [] long = refl
under_long text (first ∷ rest) long =
    let t : total (first ∷ rest) ≡ length first.name + total rest = refl in
    by_test (bytes_eq text first.name) refl (under_long text rest (omega (arith, t, long)))
  where
    by_test : (c : Bool) → bytes_eq text first.name ≡ c → under text rest ≡ no_flag
        → cond c (flag first.value) (under text rest) ≡ no_flag
    by_test true same later =
        let t : total (first ∷ rest) ≡ length first.name + total rest = refl in
        absurd (omega (arith, t, long, ap length (same_bytes text first.name same)))
    by_test false other later = later

fresh_absent : (rules : List (Member Bool)) (path : List Step) (all : Bool)
    → under (rule_text (path ++ fresh rules ∷ []) all) rules ≡ no_flag
fresh_absent rules path all = under_long (rule_text (path ++ fresh rules ∷ []) all) rules (fresh_long path (total rules) all)

-- of a leaf of that name the longest rule above it decides
fresh_decision : (rules : List (Member Bool)) (path : List Step)
    → decision rules (path ++ fresh rules ∷ []) ≡ longest rules path (length path)
fresh_decision rules path =
    let whole : List Step = path ++ fresh rules ∷ [] in
    let one_more : length whole ≡ suc (length path) = omega (arith, length-append path (fresh rules ∷ [])) in
    ap (λ o. either o (longest rules whole (length whole))) (fresh_absent rules path false)
    ∙ ap (longest rules whole) one_more
    ∙ ap (λ l. either (under (rule_text l true) rules) (longest rules whole (length path)))
    (take_all (suc (length path)) whole (omega (arith, one_more)))
    ∙ ap (λ o. either o (longest rules whole (length path))) (fresh_absent rules path true)
    ∙ longest_of_front rules path (fresh rules ∷ []) (length path) (omega arith)

-- ---- what is so the test tells

module _ (rules : List (Member Bool)) (path : List Step)
    (decided : (more : List Step) → decision rules (path ++ more) ≡ flag true) where
  longest_is : longest rules path (length path) ≡ flag true
  longest_is = sym (fresh_decision rules path) ∙ decided (fresh rules ∷ [])

  -- a rule for a path that begins so is an included one
  rule_included : (steps more : List Step) (all b : Bool) → steps ≡ path ++ more
      → under (rule_text steps all) rules ≡ flag b → b ≡ true
  rule_included steps more false b whole stands =
      same_flag b true
      (sym (ap (λ o. either o (longest rules steps (length steps))) stands)
      ∙ ap (decision rules) whole ∙ decided more)
  rule_included steps more true b whole stands =
      same_flag b true
      (sym (longest_here rules steps b stands)
      ∙ sym (fresh_decision rules steps)
      ∙ ap (λ l. decision rules (l ++ fresh rules ∷ [])) whole
      ∙ ap (decision rules) (append_assoc path more (fresh rules ∷ []))
      ∙ decided (more ++ fresh rules ∷ []))

  kept_where : (value begins : Bool) → (begins ≡ true → value ≡ true) → (value || not begins) ≡ true
  kept_where true begins so = refl
  kept_where false true so = so refl
  kept_where false false so = refl

  rule_kept : (m : Member Bool) → IsSpelled m.name → under m.name rules ≡ flag m.value → is_kept path m ≡ true
  rule_kept m own stands =
      kept_where m.value (begins_with path m.name) (λ begins.
      let front : IsFront path own.steps =
      front_of_text path own.steps own.all (drop (length (steps_text path)) m.name)
      (own.is ∙ begins_so path m.name begins) in
      rule_included own.steps front.more own.all m.value front.whole (ap (λ n. under n rules) own.is ∙ stands))

  -- the first rule of some that rise does not stand among the others
  none_under : (text : List ℕ) (rest : List (Member Bool)) → IsBefore text rest → under text rest ≡ no_flag
  none_under text [] before = refl
  none_under text (m ∷ rest) before =
      ap (λ c. cond c (flag m.value) (under text rest))
      (sym (is_eq-slice_cmp text m.name) ∙ ap is_eq before.0)
      ∙ none_under text rest before.1

  all_kept : (rest : List (Member Bool)) → Rises rest → AreSpelled rest
      → ((text : List ℕ) (b : Bool) → under text rest ≡ flag b → under text rules ≡ flag b)
      → list_all (is_kept path) rest ≡ true
  all_kept [] rise spelled within = refl
  all_kept (m ∷ rest) rise spelled within =
      and_from (is_kept path m) (list_all (is_kept path) rest)
      (rule_kept m spelled.0 (within m.name m.value
      (ap (λ c. cond c (flag m.value) (under m.name rest)) (bytes_eq_same m.name))))
      (all_kept rest rise.1 spelled.1 (λ text b stands. within text b (still text b (bytes_eq text m.name) refl stands)))
    where
      still : (text : List ℕ) (b c : Bool) → bytes_eq text m.name ≡ c → under text rest ≡ flag b
          → cond c (flag m.value) (under text rest) ≡ flag b
      still text b false other stands = stands
      still text b true same stands =
          let gone : under text rest ≡ no_flag =
          ap (λ t. under t rest) (same_bytes text m.name same) ∙ none_under m.name rest rise.0 in
          absurd (let e : ⊥ = cc in e)

pub all_covered_is : (policy : Policy) (path : List Step) → AreInOrder policy.rules → CoversAll policy path
    → is_all_covered policy path ≡ true
all_covered_is policy path ordered covers =
    let decided : (more : List Step) → decision policy.rules (path ++ more) ≡ flag true =
    λ more. included_is (decision policy.rules (path ++ more))
    (and_parts (indexes policy) (unwrap_or (decision policy.rules (path ++ more)) false)
    (covers_is policy (path ++ more) (covers more))).1 in
    and_from (indexes policy && unwrap_or (longest policy.rules path (length path)) false)
    (list_all (is_kept path) policy.rules)
    (and_from (indexes policy) (unwrap_or (longest policy.rules path (length path)) false) (covers []).0
    (ap (λ o. unwrap_or o false) (longest_is policy.rules path decided)))
    (all_kept policy.rules path decided policy.rules ordered.rise ordered.spelled (λ text b stands. stands))
