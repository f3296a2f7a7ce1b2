-- The rule that is found decides: it matches, and goes before each other that does.
use Rattle.std.proofs.Common.{◌≡◌, ℕ, ◌<◌, ◌≤◌, zero, suc, List, [], ◌∷◌, ◌++◌, length, take, drop, Bool, true, false, Option, Some, None, refl, sym, ap, subst, ◌∙◌, arith, ◌⊎◌, inl, inr}
use Rattle.std.specs.Option.{unwrap_or}
use Rattle.std.proofs.lemmas.Bool.{cases_lt}
use Rattle.std.proofs.lemmas.List.{take-append-drop, length-append, length-take-le}
use Rattle.std.proofs.Math.Seq.{take-append_seam}
use Rattle.ax_mean.specs.declared.query.Step.{Step}
use Rattle.ax_tree.specs.declared.members.Member.{Member}
use Rattle.ax_policy.specs.declared.policy.Policy.{Policy}
use Rattle.ax_policy.specs.Covering.{Rule, IsRuleOf, Reaches, Matches, GoesBefore, Decides, indexes, Covers}
use Rattle.ax_policy.specs.Deciding.{longest, decision, is_covered}
use Rattle.ax_policy.specs.Paths.{rule_text, either}
use Rattle.ax_policy.specs.Rules.{under}
use Rattle.ax_policy.proofs.Searching.{both, both_true}

abbrev pub flag : Bool → Option Bool
flag b = Some b

abbrev pub no_flag : Option Bool
no_flag = None

-- ---- a rule that matches has a front of the path

pub record IsFront (steps path : List Step) : Type 0 where
  pub within : length steps ≤ length path
  pub is : steps ≡ take (length steps) path

front_of : (steps more path : List Step) → path ≡ steps ++ more → IsFront steps path
front_of steps more path e = record {
  within = omega (arith, ap length e, length-append steps more);
  is = sym (ap (take (length steps)) e ∙ take-append_seam steps more);
}

take_whole : (path : List Step) → take (length path) path ≡ path
take_whole [] = refl
take_whole (step ∷ path) = ap (λ l. step ∷ l) (take_whole path)

pub reached : (all : Bool) (steps path : List Step) → Reaches all steps path → IsFront steps path
reached true steps path m = front_of steps m.0 path m.1
reached false steps path m = record {
  within = omega (arith, ap length m);
  is = sym m ∙ sym (take_whole path) ∙ ap (λ l. take (length l) path) m;
}

pub front : (rule : Rule) (path : List Step) → Matches rule path → IsFront rule.steps path
front rule path m = reached rule.all rule.steps path m

pub same_front : (a b path : List Step) → IsFront a path → IsFront b path → length a ≡ length b
    → a ≡ b
same_front a b path f g e = f.is ∙ ap (λ n. take n path) e ∙ sym g.is

-- ---- what is found

pub record Longest (rules : List (Member Bool)) (path : List Step) (most : ℕ) (b : Bool) : Type 0 where
  pub count : ℕ
  pub within : count ≤ most
  pub is : under (rule_text (take count path) true) rules ≡ flag b
  pub later : (j : ℕ) → count < j → j ≤ most → under (rule_text (take j path) true) rules ≡ no_flag

longer : (rules : List (Member Bool)) (path : List Step) (most : ℕ) (b : Bool) (o : Option Bool)
    → under (rule_text (take (suc most) path) true) rules ≡ o
    → (longest rules path most ≡ flag b → Longest rules path most b)
    → either o (longest rules path most) ≡ flag b → Longest rules path (suc most) b
longer rules path most b (Some c) u l e = record {
  count = suc most;
  within = omega arith;
  is = u ∙ e;
  later = λ j h k. absurd (omega arith);
}
longer rules path most b None u l e =
    let less : Longest rules path most b = l e in
    record {
      count = less.count;
      within = omega (arith, less.within);
      is = less.is;
      later = λ j h k. at_most less j h (cases_lt j (suc most)) k;
    }
  where
    at_most : (less : Longest rules path most b) (j : ℕ) → less.count < j
        → (j < suc most) ⊎ (suc most ≤ j) → j ≤ suc most
        → under (rule_text (take j path) true) rules ≡ no_flag
    at_most less j h (inl below) k = less.later j h (omega arith)
    at_most less j h (inr above) k =
        let same : j ≡ suc most = omega arith in
        rw same u

pub longest_found : (rules : List (Member Bool)) (path : List Step) (most : ℕ) (b : Bool)
    → longest rules path most ≡ flag b → Longest rules path most b
longest_found rules path zero b e = record {
  count = 0;
  within = omega arith;
  is = e;
  later = λ j h k. absurd (omega arith);
}
longest_found rules path (suc most) b e =
    longer rules path most b (under (rule_text (take (suc most) path) true) rules) refl
    (longest_found rules path most b) e

either_none : (a b : Option Bool) → either a b ≡ no_flag → (a ≡ no_flag) × (b ≡ no_flag)
either_none None b e = (refl, e)
either_none (Some c) b e = absurd (cc)

pub longest_none : (rules : List (Member Bool)) (path : List Step) (most : ℕ)
    → longest rules path most ≡ no_flag → (j : ℕ) → j ≤ most
    → under (rule_text (take j path) true) rules ≡ no_flag
longest_none rules path zero e zero h = e
longest_none rules path zero e (suc j) h = absurd (omega arith)
longest_none rules path (suc most) e j h =
    let parts = either_none (under (rule_text (take (suc most) path) true) rules) (longest rules path most) e in
    by_place (cases_lt j (suc most)) (longest_none rules path most parts.1) parts.0
  where
    by_place : (j < suc most) ⊎ (suc most ≤ j)
        → ((j : ℕ) → j ≤ most → under (rule_text (take j path) true) rules ≡ no_flag)
        → under (rule_text (take (suc most) path) true) rules ≡ no_flag
        → under (rule_text (take j path) true) rules ≡ no_flag
    by_place (inl below) less here = less j (omega arith)
    by_place (inr above) less here =
        let same : j ≡ suc most = omega arith in
        rw same here

-- ---- deciding

pub record Decided (policy : Policy) (path : List Step) (b : Bool) : Type 0 where
  pub rule : Rule
  pub decides : Decides policy path rule
  pub says : rule.included ≡ b

pub exact_before : (policy : Policy) (path : List Step) (b : Bool) (other : Rule) → Matches other path
    → GoesBefore (record { steps = path; all = false; included = b }) other
exact_before policy path b other m =
    let f : IsFront other.steps path = front other path m in
    by_place (cases_lt (length other.steps) (length path)) f
  where
    by_place : (length other.steps < length path) ⊎ (length path ≤ length other.steps)
        → IsFront other.steps path
        → GoesBefore (record { steps = path; all = false; included = b }) other
    by_place (inl below) f = inl below
    by_place (inr above) f = inr (omega (arith, f.within), λ e. absurd (cc))

length_front : (n : ℕ) (path : List Step) → n ≤ length path → length (take n path) ≡ n
length_front n path h = length-take-le n path h

pub longest_before_all : (policy : Policy) (path : List Step) (b : Bool)
    (l : Longest policy.rules path (length path) b) (steps : List Step) (c : Bool)
    → IsFront steps path → under (rule_text steps true) policy.rules ≡ flag c
    → GoesBefore (record { steps = take l.count path; all = true; included = b })
    (record { steps = steps; all = true; included = c })
longest_before_all policy path b l steps c f r =
    let there : under (rule_text (take (length steps) path) true) policy.rules ≡ flag c =
    subst (λ s. under (rule_text s true) policy.rules ≡ flag c) f.is r in
    by_place there (length_front l.count path l.within) (cases_lt l.count (length steps)) (cases_lt (length steps) l.count)
  where
    by_place : under (rule_text (take (length steps) path) true) policy.rules ≡ flag c
        → length (take l.count path) ≡ l.count
        → (l.count < length steps) ⊎ (length steps ≤ l.count)
        → (length steps < l.count) ⊎ (l.count ≤ length steps)
        → GoesBefore (record { steps = take l.count path; all = true; included = b })
        (record { steps = steps; all = true; included = c })
    by_place there long (inl above) other =
        let gone : under (rule_text (take (length steps) path) true) policy.rules ≡ no_flag =
        l.later (length steps) above f.within in
        absurd (cc)
    by_place there long (inr below) (inl less) = inl (omega (arith, long))
    by_place there long (inr below) (inr more) = inr (omega (arith, long), λ e. refl)

longest_before : (policy : Policy) (path : List Step) (b : Bool)
    (l : Longest policy.rules path (length path) b)
    → under (rule_text path false) policy.rules ≡ no_flag
    → (steps : List Step) (all c : Bool) → under (rule_text steps all) policy.rules ≡ flag c
    → Reaches all steps path
    → GoesBefore (record { steps = take l.count path; all = true; included = b })
    (record { steps = steps; all = all; included = c })
longest_before policy path b l none steps false c r m =
    let same : path ≡ steps = m in
    let there : under (rule_text path false) policy.rules ≡ flag c = subst (λ s. under (rule_text s false) policy.rules ≡ flag c) (sym same) r in
    absurd (cc)
longest_before policy path b l none steps true c r m =
    longest_before_all policy path b l steps c (reached true steps path m) r

pub decided : (policy : Policy) (path : List Step) (b : Bool)
    → decision policy.rules path ≡ flag b → Decided policy path b
decided policy path b e = by_exact (under (rule_text path false) policy.rules) refl e
  where
    by_exact : (o : Option Bool) → under (rule_text path false) policy.rules ≡ o
        → either o (longest policy.rules path (length path)) ≡ flag b → Decided policy path b
    by_exact (Some c) u e = record {
      rule = record { steps = path; all = false; included = b };
      decides = record {
        is_rule = u ∙ e;
        matches = refl;
        before = λ other r m. exact_before policy path b other m;
      };
      says = refl;
    }
    by_exact None u e =
        let l : Longest policy.rules path (length path) b =
        longest_found policy.rules path (length path) b e in
        record {
          rule = record { steps = take l.count path; all = true; included = b };
          decides = record {
            is_rule = l.is;
            matches = (drop l.count path, sym (take-append-drop l.count path));
            before = λ other r m. longest_before policy path b l u other.steps other.all other.included r m;
          };
          says = refl;
        }

none_by : (policy : Policy) (path : List Step) → decision policy.rules path ≡ no_flag
    → (steps : List Step) (all c : Bool) → under (rule_text steps all) policy.rules ≡ flag c
    → Reaches all steps path → ⊥
none_by policy path e steps false c r m =
    let parts = either_none (under (rule_text path false) policy.rules) (longest policy.rules path (length path)) e in
    let there : under (rule_text path false) policy.rules ≡ flag c = subst (λ s. under (rule_text s false) policy.rules ≡ flag c) (sym m) r in
    let gone : under (rule_text path false) policy.rules ≡ no_flag = parts.0 in
    cc
none_by policy path e steps true c r m =
    let parts = either_none (under (rule_text path false) policy.rules) (longest policy.rules path (length path)) e in
    let f : IsFront steps path = reached true steps path m in
    let there : under (rule_text (take (length steps) path) true) policy.rules ≡ flag c =
    subst (λ s. under (rule_text s true) policy.rules ≡ flag c) f.is r in
    let gone : under (rule_text (take (length steps) path) true) policy.rules ≡ no_flag =
    longest_none policy.rules path (length path) parts.1 (length steps) f.within in
    cc

pub undecided : (policy : Policy) (path : List Step) → decision policy.rules path ≡ no_flag
    → (rule : Rule) → IsRuleOf policy rule → Matches rule path → ⊥
undecided policy path e rule r m = none_by policy path e rule.steps rule.all rule.included r m

-- ---- one rule decides

-- each of two goes before the other
pub record AreLevel (rule other : Rule) : Type 0 where
  pub length_is : length rule.steps ≡ length other.steps
  pub one : rule.all ≡ true → other.all ≡ true
  pub two : other.all ≡ true → rule.all ≡ true

level : (rule other : Rule) → GoesBefore rule other → GoesBefore other rule → AreLevel rule other
level rule other (inl a) (inl b) = absurd (omega arith)
level rule other (inl a) (inr b) = absurd (omega (arith, b.0))
level rule other (inr a) (inl b) = absurd (omega (arith, a.0))
level rule other (inr a) (inr b) = record { length_is = sym a.0; one = a.1; two = b.1 }

same_truth : (a b : Bool) → (a ≡ true → b ≡ true) → (b ≡ true → a ≡ true) → a ≡ b
same_truth true b h k = sym (h refl)
same_truth false true h k = k refl
same_truth false false h k = refl

some_same : (a b : Bool) → flag a ≡ flag b → a ≡ b
some_same a b e = ap (λ o. unwrap_or o false) e

pub same_rule : (policy : Policy) (path : List Step) (rule other : Rule) → IsRuleOf policy rule
    → IsRuleOf policy other → Matches rule path → Matches other path → GoesBefore rule other
    → GoesBefore other rule → rule.included ≡ other.included
same_rule policy path rule other r s m n a b =
    let l : AreLevel rule other = level rule other a b in
    let steps : rule.steps ≡ other.steps = same_front rule.steps other.steps path (front rule path m)
    (front other path n) l.length_is in
    let all : rule.all ≡ other.all = same_truth rule.all other.all l.one l.two in
    let text : under (rule_text rule.steps rule.all) policy.rules
    ≡ under (rule_text other.steps other.all) policy.rules =
    ap (λ l. under (rule_text l rule.all) policy.rules) steps
    ∙ ap (λ x. under (rule_text other.steps x) policy.rules) all in
    some_same rule.included other.included (sym r ∙ text ∙ s)

pub same_decided : (policy : Policy) (path : List Step) (rule other : Rule)
    → Decides policy path rule → Decides policy path other → rule.included ≡ other.included
same_decided policy path rule other a b =
    same_rule policy path rule other a.is_rule b.is_rule a.matches b.matches
    (a.before other b.is_rule b.matches) (b.before rule a.is_rule a.matches)

-- ---- covered leaves

pub included_is : (o : Option Bool) → unwrap_or o false ≡ true → o ≡ flag true
included_is None e = absurd (cc)
included_is (Some b) e = ap Some e

pub covered : (policy : Policy) (path : List Step) → is_covered policy path ≡ true
    → Covers policy path
covered policy path e =
    let parts = both (indexes policy) (unwrap_or (decision policy.rules path) false) e in
    let d : Decided policy path true = decided policy path true
    (included_is (decision policy.rules path) parts.1) in
    (parts.0, (d.rule, d.decides, d.says))

decision_true : (policy : Policy) (path : List Step) (rule : Rule) → Decides policy path rule
    → rule.included ≡ true → (o : Option Bool) → decision policy.rules path ≡ o
    → unwrap_or o false ≡ true
decision_true policy path rule d i None e =
    absurd (undecided policy path e rule d.is_rule d.matches)
decision_true policy path rule d i (Some b) e =
    let found : Decided policy path b = decided policy path b e in
    sym found.says ∙ same_decided policy path found.rule rule found.decides d ∙ i

pub covers_is : (policy : Policy) (path : List Step) → Covers policy path
    → is_covered policy path ≡ true
covers_is policy path c =
    both_true (indexes policy) (unwrap_or (decision policy.rules path) false) c.0
    (decision_true policy path c.1.0 c.1.1 c.1.2 (decision policy.rules path) refl)
