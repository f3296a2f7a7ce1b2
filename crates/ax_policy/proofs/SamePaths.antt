-- Two paths of rules are one where their texts are, so that a tree tells rules apart as their texts do.
use Rattle.std.proofs.Common.{◌≡◌, ℕ, ◌+◌, ◌<◌, suc, List, [], ◌∷◌, ◌++◌, length, drop, get_or, Bool, true, false, cond, Option, Some, None, refl, sym, ap, ap₂, ◌∙◌, arith, append_assoc}
use Rattle.std.specs.Str.{bytes_eq}
use Rattle.std.proofs.Math.Seq.{drop-cons}
use Rattle.ax_mean.specs.declared.query.Step.{Step}
use Rattle.ax_mean.specs.declared.query.Step.TheVariants.{Name, Item}
use Rattle.ax_tree.specs.declared.members.Member.{Member}
use Rattle.ax_policy.specs.declared.rule_path.RulePath.{RulePath}
use Rattle.ax_policy.specs.declared.rule_tree.RuleTree.{RuleTree}
use Rattle.ax_policy.specs.Paths.{name_text, step_text, steps_text, mark_text, rule_text, rule_path, either}
use Rattle.ax_policy.specs.Rules.{under}
use Rattle.ax_policy.specs.RuleTrees.{says, same_step, same_mark, same_path, IsWith, TextAdded}
use Rattle.ax_policy.specs.Written.{is_written, is_text_of, are_written}
use Rattle.ax_policy.proofs.PathTexts.{name_apart, found_0, found_1, no_mark}
use Rattle.ax_policy.proofs.PathReading.{found}
use Rattle.ax_policy.proofs.Searching.{both, both_true, same_bytes, bytes_eq_same}

-- ---- the same path, and the same text

by_both : (a b : Bool) → (a ≡ true → b ≡ true) → (b ≡ true → a ≡ true) → a ≡ b
by_both true b there back = sym (there refl)
by_both false true there back = back refl
by_both false false there back = refl

marks_same : (a b : Bool) → mark_text a ≡ mark_text b → same_mark a b ≡ true
marks_same true true e = refl
marks_same false false e = refl
marks_same true false e = absurd (let h : 42 ≡ 63 = ap (λ l. get_or l 1 0) e in omega arith)
marks_same false true e = absurd (let h : 63 ≡ 42 = ap (λ l. get_or l 1 0) e in omega arith)

same_marks : (a b : Bool) → same_mark a b ≡ true → a ≡ b
same_marks true true e = refl
same_marks false false e = refl
same_marks true false e = sym e
same_marks false true e = e

paths_same : (steps : List Step) (all : Bool) (others : List Step) (other_all : Bool)
    → rule_text steps all ≡ rule_text others other_all → same_path steps all others other_all ≡ true
paths_same [] all [] other_all e = marks_same all other_all e
paths_same [] all (other ∷ others) other_all e =
    absurd (no_mark other (steps_text others ++ mark_text other_all) all
    (e ∙ append_assoc (step_text other) (steps_text others) (mark_text other_all)))
paths_same (step ∷ steps) all [] other_all e =
    absurd (no_mark step (steps_text steps ++ mark_text all) other_all
    (sym e ∙ append_assoc (step_text step) (steps_text steps) (mark_text all)))
paths_same (Item ∷ steps) all (Item ∷ others) other_all e =
    paths_same steps all others other_all (ap (λ l. drop 3 l) e)
paths_same (Name a ∷ steps) all (Name b ∷ others) other_all e =
    let same : found a (steps_text steps ++ mark_text all) ≡ found b (steps_text others ++ mark_text other_all) =
    name_apart a b (steps_text steps ++ mark_text all) (steps_text others ++ mark_text other_all)
    (sym (append_assoc (name_text a) (steps_text steps) (mark_text all)) ∙ e
    ∙ append_assoc (name_text b) (steps_text others) (mark_text other_all)) in
    both_true (bytes_eq a b) _ (ap (bytes_eq a) (sym (found_0 a b _ _ same)) ∙ bytes_eq_same a)
    (paths_same steps all others other_all (found_1 a b _ _ same))
paths_same (Name a ∷ steps) all (Item ∷ others) other_all e =
    absurd (let h : 34 ≡ 91 = ap (λ l. get_or l 1 0) e in omega arith)
paths_same (Item ∷ steps) all (Name b ∷ others) other_all e =
    absurd (let h : 91 ≡ 34 = ap (λ l. get_or l 1 0) e in omega arith)

same_steps : (step other : Step) → same_step step other ≡ true → step ≡ other
same_steps Item Item e = refl
same_steps (Name a) (Name b) e = ap Name (same_bytes a b e)
same_steps Item (Name b) e = absurd (cc)
same_steps (Name a) Item e = absurd (cc)

same_paths : (steps : List Step) (all : Bool) (others : List Step) (other_all : Bool)
    → same_path steps all others other_all ≡ true → rule_text steps all ≡ rule_text others other_all
same_paths [] all [] other_all e = ap mark_text (same_marks all other_all e)
same_paths [] all (other ∷ others) other_all e = absurd (cc)
same_paths (step ∷ steps) all [] other_all e = absurd (cc)
same_paths (step ∷ steps) all (other ∷ others) other_all e =
    let parts = both (same_step step other) _ e in
    append_assoc (step_text step) (steps_text steps) (mark_text all)
    ∙ ap₂ (λ a b. a ++ b) (ap step_text (same_steps step other parts.0))
    (same_paths steps all others other_all parts.1)
    ∙ sym (append_assoc (step_text other) (steps_text others) (mark_text other_all))

same_texts : (steps : List Step) (all : Bool) (others : List Step) (other_all : Bool)
    → same_path steps all others other_all ≡ bytes_eq (rule_text steps all) (rule_text others other_all)
same_texts steps all others other_all =
    by_both (same_path steps all others other_all) (bytes_eq (rule_text steps all) (rule_text others other_all))
    (λ e. ap (bytes_eq (rule_text steps all)) (sym (same_paths steps all others other_all e))
    ∙ bytes_eq_same (rule_text steps all))
    (λ e. paths_same steps all others other_all
    (same_bytes (rule_text steps all) (rule_text others other_all) e))

-- ---- the rule of a text that is written as paths are

written_as : (text : List ℕ) (path : Option RulePath) → is_text_of text path ≡ true
    → (p : RulePath) → path ≡ Some p → rule_text p.steps p.all ≡ text
written_as text None e p is = absurd (cc)
written_as text (Some own) e p is =
    same_bytes (rule_text p.steps p.all) text (ap (is_text_of text) (sym is) ∙ e)

text_of : (text : List ℕ) (path : RulePath) → is_written text ≡ true → rule_path text ≡ Some path
    → rule_text path.steps path.all ≡ text
unfolding is_written
text_of text path w is = written_as text (rule_path text) w path is

pub text_added : (text : List ℕ) (path : RulePath) (included : Bool) (old new : Option RuleTree)
    → is_written text ≡ true → Some path ≡ rule_path text → IsWith old path included new
    → TextAdded old text included new
text_added text path included old new w is with_it steps all =
    with_it steps all
    ∙ ap (λ b. either (says old steps all) (cond b (Some included) None))
    (same_texts steps all path.steps path.all
    ∙ ap (bytes_eq (rule_text steps all)) (text_of text path w (sym is)))

pub not_none : {P : Type 0} (text : List ℕ) → is_written text ≡ true → None ≡ rule_path text → P
unfolding is_written
not_none text w is =
    absurd (let e : false ≡ true = ap (is_text_of text) is ∙ w in cc)

-- ---- rules one after another

either_again : {T : Type 0} (a b c : Option T) → either (either a b) c ≡ either a (either b c)
either_again None b c = refl
either_again (Some a) b c = refl

first_of : {T : Type 0} (b : Bool) (x : T) (other : Option T)
    → either (cond b (Some x) None) other ≡ cond b (Some x) other
first_of true x other = refl
first_of false x other = refl

-- what the tree says, and else these rules, is what all rules say
abbrev pub Say : Option RuleTree → List (Member Bool) → List (Member Bool) → Type 0
Say tree left rules =
    (steps : List Step) (all : Bool)
    → either (says tree steps all) (under (rule_text steps all) left) ≡ under (rule_text steps all) rules

pub next_added : (rules : List (Member Bool)) (at : ℕ) (m : Member Bool) (old new : Option RuleTree)
    → at < length rules → m ≡ get_or rules at m → are_written (drop at rules) ≡ true
    → Say old (drop at rules) rules
    → TextAdded old m.name m.value new
    → (are_written (drop (at + 1) rules) ≡ true) × Say new (drop (at + 1) rules) rules
next_added rules at m old new h is w say added =
    let next : at + 1 ≡ suc at = omega arith in
    let cut : drop at rules ≡ m ∷ drop (at + 1) rules =
    drop-cons rules at m h ∙ ap (λ x. x ∷ drop (suc at) rules) (sym is)
    ∙ ap (λ n. m ∷ drop n rules) (sym next) in (
      (both (is_written m.name) (are_written (drop (at + 1) rules)) (sym (ap are_written cut) ∙ w)).1,
      λ steps all. ap (λ o. either o (under (rule_text steps all) (drop (at + 1) rules))) (added steps all)
          ∙ either_again (says old steps all) (cond (bytes_eq (rule_text steps all) m.name) (Some m.value) None)
          (under (rule_text steps all) (drop (at + 1) rules))
          ∙ ap (either (says old steps all))
          (first_of (bytes_eq (rule_text steps all) m.name) m.value (under (rule_text steps all) (drop (at + 1) rules)))
          ∙ ap (λ l. either (says old steps all) (under (rule_text steps all) l)) (sym cut)
          ∙ say steps all,
    )
