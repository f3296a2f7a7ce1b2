-- Every leaf at or below a path: the longest rule with `/*` that matches the path is included, and
-- so is each rule whose steps begin with it.
use Rattle.std.proofs.Common.{◌≡◌, ℕ, ◌+◌, ◌<◌, ◌≤◌, ◌&&◌, ◌||◌, zero, suc, List, [], ◌∷◌, ◌++◌, length, take, drop, get_or, Bool, true, false, cond, not, Option, Some, None, refl, sym, ap, subst, ◌∙◌, arith, ◌⊎◌, inl, inr, append_assoc, true≢false}
use Rattle.std.specs.List.{list_all}
use Rattle.std.specs.Option.{unwrap_or}
use Rattle.std.specs.Str.{bytes_eq}
use Rattle.std.proofs.Math.Seq.{take-append_seam}
use Rattle.std.proofs.lemmas.Bool.{cases_lt}
use Rattle.std.proofs.lemmas.List.{length-append, take-append-drop}
use Rattle.ax_mean.specs.declared.query.Step.{Step}
use Rattle.ax_mean.specs.declared.query.Step.TheVariants.{Name}
use Rattle.ax_tree.specs.Names.{HaveRisingNames}
use Rattle.ax_tree.specs.declared.members.Member.{Member}
use Rattle.ax_policy.specs.declared.policy.Policy.{Policy}
use Rattle.ax_policy.specs.declared.rule_path.RulePath.{RulePath}
use Rattle.ax_policy.specs.Covering.{Rule, IsRuleOf, Reaches, Matches, GoesBefore, indexes, Covers, CoversAll}
use Rattle.ax_policy.specs.Deciding.{longest, decision, begins_with, is_kept, is_all_covered}
use Rattle.ax_policy.specs.Paths.{escaped, step_text, steps_text, mark_text, rule_text, rule_path}
use Rattle.ax_policy.specs.Rules.{under}
use Rattle.ax_policy.specs.Written.{is_text_of, is_written, are_written}
use Rattle.ax_policy.proofs.Searching.{both, both_true, bytes_eq_same, same_bytes, later, first_absent}
use Rattle.ax_policy.proofs.Decisions.{flag, no_flag, IsFront, front, reached, Longest, longest_found, longest_none, Decided, decided, undecided, longest_before_all, exact_before, same_rule, included_is}
use Rattle.ax_policy.proofs.PathTexts.{Front, front_of_text, front_in_text}

-- ---- rules that are kept

-- the text begins so
pub begins_is : (steps : List Step) (text rest : List ℕ) → text ≡ steps_text steps ++ rest
    → begins_with steps text ≡ true
begins_is steps text rest e =
    ap (λ l. bytes_eq (take (length (steps_text steps)) l) (steps_text steps)) e
    ∙ ap (λ l. bytes_eq l (steps_text steps)) (take-append_seam (steps_text steps) rest)
    ∙ bytes_eq_same (steps_text steps)

pub begins_so : (steps : List Step) (text : List ℕ) → begins_with steps text ≡ true
    → text ≡ steps_text steps ++ drop (length (steps_text steps)) text
begins_so steps text b =
    sym (take-append-drop (length (steps_text steps)) text)
    ∙ ap (λ l. l ++ drop (length (steps_text steps)) text) (same_bytes _ _ b)

kept_by : (b included : Bool) → (included || not b) ≡ true → b ≡ true → included ≡ true
kept_by true true k e = refl
kept_by true false k e = k
kept_by false included k e = absurd (cc)

-- what is so of all rules is so of that under a text
under_all : (steps : List Step) (text : List ℕ) (rules : List (Member Bool)) (b : Bool)
    → list_all (is_kept steps) rules ≡ true → under text rules ≡ flag b
    → (b || not (begins_with steps text)) ≡ true
under_all steps text [] b k u = absurd (cc)
under_all steps text (first ∷ rest) b k u =
    by_test (bytes_eq text first.name) refl (both (is_kept steps first) _ k)
    (λ l v. under_all steps text rest b l v) u
  where
    by_test : (c : Bool) → bytes_eq text first.name ≡ c
        → (is_kept steps first ≡ true) × (list_all (is_kept steps) rest ≡ true)
        → (list_all (is_kept steps) rest ≡ true → under text rest ≡ flag b
        → (b || not (begins_with steps text)) ≡ true)
        → cond c (flag first.value) (under text rest) ≡ flag b
        → (b || not (begins_with steps text)) ≡ true
    by_test true e k less u =
        let same : text ≡ first.name = same_bytes text first.name e in
        let value : first.value ≡ b = ap (λ o. unwrap_or o false) u in
        ap (λ v. v || not (begins_with steps text)) (sym value)
        ∙ ap (λ t. first.value || not (begins_with steps t)) same
        ∙ k.0
    by_test false e k less u = less k.1 u

pub kept_included : (policy : Policy) (path more : List Step) (rule : Rule)
    → list_all (is_kept path) policy.rules ≡ true → IsRuleOf policy rule
    → rule.steps ≡ path ++ more → rule.included ≡ true
kept_included policy path more rule k r e =
    kept_by (begins_with path (rule_text rule.steps rule.all)) rule.included
    (under_all path (rule_text rule.steps rule.all) policy.rules rule.included k r)
    (begins_is path (rule_text rule.steps rule.all) (rule_text more rule.all)
    (ap (λ l. rule_text l rule.all) e ∙ front_in_text path more rule.all))

-- ---- all kept, and the path is covered with all below it

-- of two fronts of a path, the shorter begins the longer
pub record Begins (front whole : List Step) : Type 0 where
  pub more : List Step
  pub is : whole ≡ front ++ more

shorter : (a b path more : List Step) → IsFront a path → path ≡ b ++ more → length b ≤ length a
    → Begins b a
shorter [] [] path more f e h = record { more = []; is = refl }
shorter (s ∷ a) [] path more f e h = record { more = s ∷ a; is = refl }
shorter [] (t ∷ b) path more f e h = absurd (omega arith)
shorter (s ∷ a) (t ∷ b) [] more f e h = absurd (cc)
shorter (s ∷ a) (t ∷ b) (p ∷ path) more f e h =
    let rest : path ≡ b ++ more = ap (λ l. drop 1 l) e in
    let fit : IsFront a path = record {
      within = omega (arith, f.within);
      is = ap (λ l. drop 1 l) f.is;
    } in
    let later : Begins b a = shorter a b path more fit rest (omega arith) in
    let one : s ≡ p = ap (λ l. get_or l 0 s) f.is in
    let other : p ≡ t = ap (λ l. get_or l 0 s) e in
    record { more = later.more; is = ap (λ x. x ∷ a) (one ∙ other) ∙ ap (λ l. t ∷ l) later.is }

-- a shorter front of the longer path is one of the shorter path
short_front : (a path more : List Step) → IsFront a (path ++ more) → length a ≤ length path
    → Begins a path
short_front [] path more f h = record { more = path; is = refl }
short_front (s ∷ a) [] more f h = absurd (omega arith)
short_front (s ∷ a) (p ∷ path) more f h =
    let fit : IsFront a (path ++ more) = record {
      within = omega (arith, f.within);
      is = ap (λ l. drop 1 l) f.is;
    } in
    let later : Begins a path = short_front a path more fit (omega arith) in
    let one : s ≡ p = ap (λ l. get_or l 0 s) f.is in
    record { more = later.more; is = ap (λ x. x ∷ path) (sym one) ∙ ap (λ l. s ∷ l) later.is }

all_short : (steps path more : List Step) (all : Bool) → Reaches all steps (path ++ more)
    → length steps < length path → all ≡ true
all_short steps path more true m h = refl
all_short steps path more false m h =
    absurd (omega (arith, h, ap length m, length-append path more))

-- the longest rule with `/*`
abbrev pub longest_rule : (policy : Policy) (path : List Step) (b : Bool)
    → Longest policy.rules path (length path) b → Rule
longest_rule policy path b l = record { steps = take l.count path; all = true; included = b }

longest_matches : (policy : Policy) (path more : List Step) (b : Bool)
    (l : Longest policy.rules path (length path) b)
    → Matches (longest_rule policy path b l) (path ++ more)
longest_matches policy path more b l = (
  drop l.count path ++ more,
  ap (λ p. p ++ more) (sym (take-append-drop l.count path))
      ∙ append_assoc (take l.count path) (drop l.count path) more,
)

front_is : (steps more path : List Step) → path ≡ steps ++ more → IsFront steps path
front_is steps more path e = reached true steps path (more, e)

goes_before_by : (policy : Policy) (path : List Step) (b : Bool)
    (l : Longest policy.rules path (length path) b) (steps : List Step) (all c : Bool)
    → under (rule_text steps all) policy.rules ≡ flag c → all ≡ true → (more : List Step)
    → path ≡ steps ++ more
    → GoesBefore (longest_rule policy path b l) (record { steps = steps; all = all; included = c })
goes_before_by policy path b l steps true c r a more e =
    longest_before_all policy path b l steps c (front_is steps more path e) r
goes_before_by policy path b l steps false c r a more e = absurd (cc)

longest_goes_before : (policy : Policy) (path : List Step) (b : Bool)
    (l : Longest policy.rules path (length path) b) (rule : Rule) → IsRuleOf policy rule
    → rule.all ≡ true → (more : List Step) → path ≡ rule.steps ++ more
    → GoesBefore (longest_rule policy path b l) rule
longest_goes_before policy path b l rule r a more e =
    goes_before_by policy path b l rule.steps rule.all rule.included r a more e

below_flag : (policy : Policy) (path more : List Step) (l : Longest policy.rules path (length path) true)
    → list_all (is_kept path) policy.rules ≡ true → (b : Bool) → (d : Decided policy (path ++ more) b)
    → d.rule.included ≡ true
below_flag policy path more l k b d = by_place (cases_lt (length d.rule.steps) (length path))
  where
    by_place : (length d.rule.steps < length path) ⊎ (length path ≤ length d.rule.steps)
        → d.rule.included ≡ true
    by_place (inr above) =
        let f : IsFront d.rule.steps (path ++ more) = front d.rule (path ++ more) d.decides.matches in
        let p : Begins path d.rule.steps = shorter d.rule.steps path (path ++ more) more f refl above in
        kept_included policy path p.more d.rule k d.decides.is_rule p.is
    by_place (inl below) =
        let f : IsFront d.rule.steps (path ++ more) = front d.rule (path ++ more) d.decides.matches in
        let p : Begins d.rule.steps path = short_front d.rule.steps path more f (omega arith) in
        let a : d.rule.all ≡ true = all_short d.rule.steps path more d.rule.all d.decides.matches below in
        let m : Matches (longest_rule policy path true l) (path ++ more) =
        longest_matches policy path more true l in
        same_rule policy (path ++ more) d.rule (longest_rule policy path true l) d.decides.is_rule l.is
        d.decides.matches m (d.decides.before (longest_rule policy path true l) l.is m)
        (longest_goes_before policy path true l d.rule d.decides.is_rule a p.more p.is)

below_covered : (policy : Policy) (path more : List Step) → indexes policy ≡ true
    → Longest policy.rules path (length path) true → list_all (is_kept path) policy.rules ≡ true
    → Covers policy (path ++ more)
below_covered policy path more i l k = by_decision (decision policy.rules (path ++ more)) refl
  where
    by_decision : (o : Option Bool) → decision policy.rules (path ++ more) ≡ o
        → Covers policy (path ++ more)
    by_decision None e =
        absurd (undecided policy (path ++ more) e (longest_rule policy path true l) l.is
        (longest_matches policy path more true l))
    by_decision (Some b) e =
        let d : Decided policy (path ++ more) b = decided policy (path ++ more) b e in
        (i, (d.rule, d.decides, below_flag policy path more l k b d))

pub all_covered : (policy : Policy) (path : List Step) → is_all_covered policy path ≡ true
    → CoversAll policy path
all_covered policy path e more =
    let a = both (indexes policy && unwrap_or (longest policy.rules path (length path)) false)
    (list_all (is_kept path) policy.rules) e in
    let b = both (indexes policy) (unwrap_or (longest policy.rules path (length path)) false) a.0 in
    below_covered policy path more b.0
    (longest_found policy.rules path (length path) true (included_is _ b.1)) a.1

-- ---- a name that no rule has

abbrev as_many : ℕ → List ℕ
as_many zero = []
as_many (suc n) = 97 ∷ as_many n

abbrev total : List (Member Bool) → ℕ
total [] = 0
total (first ∷ rest) = length first.name + total rest

abbrev fresh : List (Member Bool) → Step
fresh rules = Name (as_many (total rules))

escaped_length : (n : ℕ) → length (escaped (as_many n)) ≡ n
escaped_length zero = refl
escaped_length (suc n) = ap suc (escaped_length n)

fresh_long : (path : List Step) (n : ℕ) (all : Bool)
    → n < length (rule_text (path ++ Name (as_many n) ∷ []) all)
fresh_long path n all =
    let e : rule_text (path ++ Name (as_many n) ∷ []) all
    ≡ steps_text path ++ rule_text (Name (as_many n) ∷ []) all =
    front_in_text path (Name (as_many n) ∷ []) all in
    omega (
      arith,
      ap length e,
      length-append (steps_text path) (rule_text (Name (as_many n) ∷ []) all),
      length-append (steps_text (Name (as_many n) ∷ [])) (mark_text all),
      length-append (step_text (Name (as_many n))) [],
      length-append (47 ∷ 34 ∷ escaped (as_many n)) (34 ∷ []),
      escaped_length n,
    )

under_short : (text : List ℕ) (rules : List (Member Bool)) (b : Bool) → under text rules ≡ flag b
    → length text ≤ total rules
under_short text [] b u = absurd (cc)
under_short text (first ∷ rest) b u =
    by_test (bytes_eq text first.name) refl (λ v. under_short text rest b v) u
  where
    by_test : (c : Bool) → bytes_eq text first.name ≡ c
        → (under text rest ≡ flag b → length text ≤ total rest)
        → cond c (flag first.value) (under text rest) ≡ flag b → length text ≤ total (first ∷ rest)
    by_test true e less u =
        let t : total (first ∷ rest) ≡ length first.name + total rest = refl in
        omega (arith, t, ap length (same_bytes text first.name e))
    by_test false e less u =
        let t : total (first ∷ rest) ≡ length first.name + total rest = refl in
        omega (arith, t, less u)

fresh_absent : (policy : Policy) (path : List Step) (all b : Bool)
    → under (rule_text (path ++ fresh policy.rules ∷ []) all) policy.rules ≡ flag b → ⊥
fresh_absent policy path all b u =
    omega (
      arith,
      under_short (rule_text (path ++ fresh policy.rules ∷ []) all) policy.rules b u,
      fresh_long path (total policy.rules) all,
    )

-- a rule that matches the path with one fresh step more
pub record Fits (path : List Step) (rule : Rule) : Type 0 where
  pub all : rule.all ≡ true
  pub within : length rule.steps ≤ length path
  pub more : List Step
  pub is : path ≡ rule.steps ++ more

fresh_length : (policy : Policy) (path : List Step)
    → length (path ++ fresh policy.rules ∷ []) ≡ length path + 1
fresh_length policy path = length-append path (fresh policy.rules ∷ [])

take_whole : (path : List Step) → take (length path) path ≡ path
take_whole [] = refl
take_whole (step ∷ path) = ap (λ l. step ∷ l) (take_whole path)

fresh_within : (policy : Policy) (path : List Step) (rule : Rule) → IsRuleOf policy rule
    → IsFront rule.steps (path ++ fresh policy.rules ∷ []) → length rule.steps ≤ length path
fresh_within policy path rule r f =
    by_place (cases_lt (length path) (length rule.steps))
  where
    by_place : (length path < length rule.steps) ⊎ (length rule.steps ≤ length path)
        → length rule.steps ≤ length path
    by_place (inr below) = below
    by_place (inl above) =
        let long : length rule.steps ≡ length (path ++ fresh policy.rules ∷ []) =
        omega (arith, fresh_length policy path, f.within) in
        let same : rule.steps ≡ path ++ fresh policy.rules ∷ [] =
        f.is ∙ ap (λ n. take n (path ++ fresh policy.rules ∷ [])) long
        ∙ take_whole (path ++ fresh policy.rules ∷ []) in
        absurd (fresh_absent policy path rule.all rule.included
        (subst (λ s. under (rule_text s rule.all) policy.rules ≡ flag rule.included) same r))

fresh_fits : (policy : Policy) (path : List Step) (rule : Rule) → IsRuleOf policy rule
    → Matches rule (path ++ fresh policy.rules ∷ []) → Fits path rule
fresh_fits policy path rule r m =
    let f : IsFront rule.steps (path ++ fresh policy.rules ∷ []) =
    front rule (path ++ fresh policy.rules ∷ []) m in
    let w : length rule.steps ≤ length path = fresh_within policy path rule r f in
    let p : Begins rule.steps path = short_front rule.steps path (fresh policy.rules ∷ []) f w in
    record {
      all = no_leaf policy path rule.steps rule.all m w;
      within = w;
      more = p.more;
      is = p.is;
    }
  where
    no_leaf : (policy : Policy) (path steps : List Step) (all : Bool)
        → Reaches all steps (path ++ fresh policy.rules ∷ []) → length steps ≤ length path
        → all ≡ true
    no_leaf policy path steps true m w = refl
    no_leaf policy path steps false m w =
        absurd (omega (arith, w, ap length m, fresh_length policy path))

-- ---- all covered, and all is kept

pub record Unkept (steps : List Step) (rules : List (Member Bool)) : Type 0 where
  pub member : Member Bool
  pub value : member.value ≡ false
  pub begins : begins_with steps member.name ≡ true
  pub written : is_written member.name ≡ true
  pub there : under member.name rules ≡ flag member.value

dropped : (v b : Bool) → (v || not b) ≡ false → (v ≡ false) × (b ≡ true)
dropped true b e = absurd (cc)
dropped false true e = (refl, refl)
dropped false false e = absurd (cc)

still : (first : Member Bool) (rest : List (Member Bool)) → HaveRisingNames (first ∷ rest)
    → (text : List ℕ) (b : Bool) → under text rest ≡ flag b → under text (first ∷ rest) ≡ flag b
still first rest r text b u = by_test (bytes_eq text first.name) refl
  where
    by_test : (c : Bool) → bytes_eq text first.name ≡ c
        → cond c (flag first.value) (under text rest) ≡ flag b
    by_test false e = u
    by_test true e =
        let same : text ≡ first.name = same_bytes text first.name e in
        let gone : under first.name rest ≡ no_flag = first_absent first rest r in
        let there : under first.name rest ≡ flag b = subst (λ n. under n rest ≡ flag b) same u in
        absurd (cc)

unkept : (steps : List Step) (rules : List (Member Bool)) → HaveRisingNames rules
    → are_written rules ≡ true → list_all (is_kept steps) rules ≡ false → Unkept steps rules
unkept steps [] r w k = absurd (cc)
unkept steps (first ∷ rest) r w k =
    by_test (is_kept steps first) refl (both (is_written first.name) _ w)
    (λ v l. unkept steps rest (later first rest r) v l) k
  where
    by_test : (c : Bool) → is_kept steps first ≡ c
        → (is_written first.name ≡ true) × (are_written rest ≡ true)
        → (are_written rest ≡ true → list_all (is_kept steps) rest ≡ false → Unkept steps rest)
        → (c && list_all (is_kept steps) rest) ≡ false → Unkept steps (first ∷ rest)
    by_test false e w less k =
        let d = dropped first.value (begins_with steps first.name) e in
        record {
          member = first;
          value = d.0;
          begins = d.1;
          written = w.0;
          there = rw (bytes_eq_same first.name) refl;
        }
    by_test true e w less k =
        let u : Unkept steps rest = less w.1 k in
        record {
          member = u.member;
          value = u.value;
          begins = u.begins;
          written = u.written;
          there = still first rest r u.member.name u.member.value u.there;
        }

pub record Spelled (name : List ℕ) : Type 0 where
  pub path : RulePath
  pub is : rule_text path.steps path.all ≡ name

spelled_by : (name : List ℕ) (o : Option RulePath) → is_text_of name o ≡ true → Spelled name
spelled_by name None e = absurd (cc)
spelled_by name (Some path) e = record { path = path; is = same_bytes _ name e }

spelled : (name : List ℕ) → is_written name ≡ true → Spelled name
unfolding is_written
spelled name e = spelled_by name (rule_path name) e

leaf_uncovered : (policy : Policy) (steps : List Step)
    → under (rule_text steps false) policy.rules ≡ flag false → Covers policy steps → ⊥
leaf_uncovered policy steps u c =
    let same : c.1.0.included ≡ false =
    same_rule policy steps c.1.0 (record { steps = steps; all = false; included = false }) c.1.1.is_rule u
    c.1.1.matches refl
    (c.1.1.before (record { steps = steps; all = false; included = false }) u refl)
    (exact_before policy steps false c.1.0 c.1.1.matches) in
    true≢false (sym c.1.2 ∙ same)

all_before : (steps path : List Step) (b : Bool) (rule : Rule) → Fits path rule
    → GoesBefore (record { steps = path; all = true; included = b }) rule
all_before steps path b rule f = by_place (cases_lt (length rule.steps) (length path))
  where
    by_place : (length rule.steps < length path) ⊎ (length path ≤ length rule.steps)
        → GoesBefore (record { steps = path; all = true; included = b }) rule
    by_place (inl below) = inl below
    by_place (inr above) = inr (omega (arith, f.within), λ e. f.all)

all_uncovered : (policy : Policy) (steps : List Step)
    → under (rule_text steps true) policy.rules ≡ flag false
    → Covers policy (steps ++ fresh policy.rules ∷ []) → ⊥
all_uncovered policy steps u c =
    let f : Fits steps c.1.0 = fresh_fits policy steps c.1.0 c.1.1.is_rule c.1.1.matches in
    let same : c.1.0.included ≡ false =
    same_rule policy (steps ++ fresh policy.rules ∷ []) c.1.0
    (record { steps = steps; all = true; included = false }) c.1.1.is_rule u
    c.1.1.matches (fresh policy.rules ∷ [], refl)
    (c.1.1.before (record { steps = steps; all = true; included = false }) u
    (fresh policy.rules ∷ [], refl))
    (all_before steps steps false c.1.0 f) in
    true≢false (sym c.1.2 ∙ same)

rule_uncovered : (policy : Policy) (path steps more : List Step) (all : Bool)
    → under (rule_text steps all) policy.rules ≡ flag false → steps ≡ path ++ more
    → CoversAll policy path → ⊥
rule_uncovered policy path steps more false u e c =
    leaf_uncovered policy steps u (subst (λ s. Covers policy s) (sym e) (c more))
rule_uncovered policy path steps more true u e c =
    let whole : path ++ (more ++ fresh policy.rules ∷ []) ≡ steps ++ fresh policy.rules ∷ [] =
    sym (append_assoc path more (fresh policy.rules ∷ [])) ∙ ap (λ l. l ++ fresh policy.rules ∷ []) (sym e) in
    all_uncovered policy steps u
    (subst (λ s. Covers policy s) whole (c (more ++ fresh policy.rules ∷ [])))

unkept_uncovered : (policy : Policy) (path : List Step) → CoversAll policy path
    → Unkept path policy.rules → ⊥
unkept_uncovered policy path c u =
    let s : Spelled u.member.name = spelled u.member.name u.written in
    let f : Front path s.path.steps =
    front_of_text path s.path.steps s.path.all _ (s.is ∙ begins_so path u.member.name u.begins) in
    let r : under (rule_text s.path.steps s.path.all) policy.rules ≡ flag false =
    ap (λ n. under n policy.rules) s.is ∙ u.there ∙ ap flag u.value in
    rule_uncovered policy path s.path.steps f.more s.path.all r f.whole c

kept_all : (policy : Policy) (path : List Step) → HaveRisingNames policy.rules
    → are_written policy.rules ≡ true → CoversAll policy path → (b : Bool)
    → list_all (is_kept path) policy.rules ≡ b → b ≡ true
kept_all policy path r w c true e = refl
kept_all policy path r w c false e =
    absurd (unkept_uncovered policy path c (unkept path policy.rules r w e))

longest_is : (policy : Policy) (path : List Step) → Covers policy (path ++ fresh policy.rules ∷ [])
    → (o : Option Bool) → longest policy.rules path (length path) ≡ o → unwrap_or o false ≡ true
longest_is policy path c None e =
    let f : Fits path c.1.0 = fresh_fits policy path c.1.0 c.1.1.is_rule c.1.1.matches in
    let is : IsFront c.1.0.steps path = front_is c.1.0.steps f.more path f.is in
    let gone : under (rule_text (take (length c.1.0.steps) path) true) policy.rules ≡ no_flag =
    longest_none policy.rules path (length path) e (length c.1.0.steps) f.within in
    let there : under (rule_text (take (length c.1.0.steps) path) true) policy.rules ≡ flag c.1.0.included =
    ap (λ s. under (rule_text s true) policy.rules) (sym is.is)
    ∙ ap (λ a. under (rule_text c.1.0.steps a) policy.rules) (sym f.all) ∙ c.1.1.is_rule in
    absurd (cc)
longest_is policy path c (Some b) e =
    let l : Longest policy.rules path (length path) b =
    longest_found policy.rules path (length path) b e in
    let f : Fits path c.1.0 = fresh_fits policy path c.1.0 c.1.1.is_rule c.1.1.matches in
    let m : Matches (longest_rule policy path b l) (path ++ fresh policy.rules ∷ []) =
    longest_matches policy path (fresh policy.rules ∷ []) b l in
    let same : c.1.0.included ≡ b =
    same_rule policy (path ++ fresh policy.rules ∷ []) c.1.0 (longest_rule policy path b l)
    c.1.1.is_rule l.is c.1.1.matches m
    (c.1.1.before (longest_rule policy path b l) l.is m)
    (longest_goes_before policy path b l c.1.0 c.1.1.is_rule f.all f.more f.is) in
    sym same ∙ c.1.2

pub all_covered_is : (policy : Policy) (path : List Step) → HaveRisingNames policy.rules
    → are_written policy.rules ≡ true → CoversAll policy path → is_all_covered policy path ≡ true
all_covered_is policy path r w c =
    both_true (indexes policy && unwrap_or (longest policy.rules path (length path)) false)
    (list_all (is_kept path) policy.rules)
    (both_true (indexes policy) (unwrap_or (longest policy.rules path (length path)) false)
    (c []).0 (longest_is policy path (c (fresh policy.rules ∷ [])) _ refl))
    (kept_all policy path r w c (list_all (is_kept path) policy.rules) refl)
