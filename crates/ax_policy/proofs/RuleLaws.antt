-- Rules put among others: what then stands under a text, that all are written as paths are, and what
-- the tests on the rules together say of the lists that they were made from.
use Rattle.std.proofs.Common.{◌≡◌, ℕ, List, [], ◌∷◌, ◌++◌, Bool, true, false, cond, ◌&&◌, ◌||◌, not, Option, Some, None, Ordering, Less, Equal, Greater, refl, sym, ap, ◌∙◌, true≢false}
use Rattle.std.specs.Cmp.Lexicographic.{slice_cmp}
use Rattle.std.specs.List.{fold, list_all, list_any}
use Rattle.std.specs.Option.{is_some}
use Rattle.std.specs.Ordering.{nat_cmp, is_eq, match_ordering}
use Rattle.std.specs.Str.{bytes_eq}
use Rattle.std.proofs.lemmas.Map.Text.{is_eq-slice_cmp}
use Rattle.std.proofs.lemmas.Slice.Eq.{bytes_eq-Decides}
use Rattle.ax_tree.specs.declared.members.Member.{Member}
use Rattle.ax_policy.specs.declared.mode.Mode.{Mode}
use Rattle.ax_policy.specs.declared.mode.Mode.TheVariants.{Consistent, None as Off}
use Rattle.ax_policy.specs.Paths.{rule_text}
use Rattle.ax_policy.specs.Rules.{under, with_rule, flagged, is_in, share, says_of_all, holds_all, if_holds, if_allowed, rules_from}
use Rattle.ax_policy.specs.Written.{is_written, are_written}
use Rattle.ax_policy.proofs.Searching.{both, both_true, same_bytes, same_from_Equal}

-- what stands under a text, where this may come before others
abbrev pub unless_it : List ℕ → List ℕ → Bool → Option Bool → Option Bool
unless_it text own value other = cond (bytes_eq text own) (Some value) other

pub twice : {T : Type 0} (b : Bool) (x y other : Option T) → cond b x other ≡ cond b x (cond b y other)
twice true x y other = refl
twice false x y other = refl

pub swapped : {T : Type 0} (a b : Bool) (x y other : Option T) → (a ≡ true → b ≡ true → ⊥)
    → cond a x (cond b y other) ≡ cond b y (cond a x other)
swapped true true x y other apart = absurd (apart refl refl)
swapped true false x y other apart = refl
swapped false b x y other apart = refl

-- no text is equal to two of which one is before the other
two_texts : (a b text : List ℕ) → slice_cmp nat_cmp a b ≡ Greater → bytes_eq text b ≡ true
    → bytes_eq text a ≡ true → ⊥
two_texts a b text e first second =
    let same : a ≡ b = sym (same_bytes text a second) ∙ same_bytes text b first in
    true≢false (sym ((bytes_eq-Decides a b).1 same) ∙ sym (is_eq-slice_cmp a b) ∙ ap is_eq e)

pub found : (text : List ℕ) (rules : List (Member Bool)) (m : Member Bool)
    → under text (with_rule rules m) ≡ unless_it text m.name m.value (under text rules)
found text [] m = refl
found text (first ∷ rest) m =
    by_order (slice_cmp nat_cmp m.name first.name) refl (found text rest m)
  where
    by_order : (o : Ordering) → slice_cmp nat_cmp m.name first.name ≡ o
        → under text (with_rule rest m) ≡ unless_it text m.name m.value (under text rest)
        → under text (match_ordering o (m ∷ first ∷ rest)
        (record { name = first.name; value = m.value } ∷ rest) (first ∷ with_rule rest m))
        ≡ unless_it text m.name m.value (under text (first ∷ rest))
    by_order Less is later = refl
    by_order Equal is later =
        ap (λ n. unless_it text n m.value (under text rest)) (sym (same_from_Equal m.name first.name is))
        ∙ twice (bytes_eq text m.name) (Some m.value) (Some first.value) (under text rest)
        ∙ ap (λ n. unless_it text m.name m.value (unless_it text n first.value (under text rest)))
        (same_from_Equal m.name first.name is)
    by_order Greater is later =
        ap (unless_it text first.name first.value) later
        ∙ swapped (bytes_eq text first.name) (bytes_eq text m.name) (Some first.value)
        (Some m.value) (under text rest) (two_texts m.name first.name text is)

one_of : (a b : Bool) (x other : Option Bool) → cond b x (cond a x other) ≡ cond (a || b) x other
one_of true true x other = refl
one_of true false x other = refl
one_of false b x other = refl

pub found_all : (flag : Bool) (texts : List (List ℕ)) (rules : List (Member Bool)) (text : List ℕ)
    → under text (fold with_rule rules (flagged flag texts))
    ≡ cond (is_in text texts) (Some flag) (under text rules)
found_all flag [] rules text = refl
found_all flag (first ∷ rest) rules text =
    found_all flag rest (with_rule rules (record { name = first; value = flag })) text
    ∙ ap (cond (is_in text rest) (Some flag)) (found text rules (record { name = first; value = flag }))
    ∙ one_of (bytes_eq text first) (is_in text rest) (Some flag) (under text rules)

-- ---- the tests

some_of : (b v : Bool) (other : Option Bool) → is_some (cond b (Some v) other) ≡ (b || is_some other)
some_of true v other = refl
some_of false v other = refl

or_nothing : (b : Bool) → (b || false) ≡ b
or_nothing true = refl
or_nothing false = refl

pub in_rules : (texts : List (List ℕ)) (text : List ℕ)
    → is_some (under text (fold with_rule [] (flagged true texts))) ≡ is_in text texts
in_rules texts text =
    ap is_some (found_all true texts [] text) ∙ some_of (is_in text texts) true None
    ∙ or_nothing (is_in text texts)

pub shares : (included excluded : List (List ℕ))
    → list_any (λ text. is_some (under text (fold with_rule [] (flagged true included)))) excluded
    ≡ share included excluded
shares included [] = refl
shares included (first ∷ rest) =
    ap (λ b. b || list_any (λ text. is_some (under text (fold with_rule [] (flagged true included)))) rest)
    (in_rules included first)
    ∙ ap (λ b. is_in first included || b) (shares included rest)

pub says : (mode : Mode) (included excluded : List (List ℕ))
    → holds_all mode (rules_from included excluded) ≡ says_of_all mode included excluded
says Consistent included excluded =
    ap is_some (found_all false excluded (fold with_rule [] (flagged true included)) (rule_text [] true))
    ∙ some_of (is_in (rule_text [] true) excluded) false
    (under (rule_text [] true) (fold with_rule [] (flagged true included)))
    ∙ ap (λ b. is_in (rule_text [] true) excluded || b) (in_rules included (rule_text [] true))
says Off included excluded = refl

-- ---- all are written as paths are

with_written : (rules : List (Member Bool)) (m : Member Bool) → are_written rules ≡ true
    → is_written m.name ≡ true → are_written (with_rule rules m) ≡ true
with_written [] m w i = both_true (is_written m.name) true i refl
with_written (first ∷ rest) m w i =
    by_order (slice_cmp nat_cmp m.name first.name) (both (is_written first.name) (are_written rest) w)
    (with_written rest m (both (is_written first.name) (are_written rest) w).1 i)
  where
    by_order : (o : Ordering) → (is_written first.name ≡ true) × (are_written rest ≡ true)
        → are_written (with_rule rest m) ≡ true
        → are_written (match_ordering o (m ∷ first ∷ rest)
        (record { name = first.name; value = m.value } ∷ rest) (first ∷ with_rule rest m)) ≡ true
    by_order Less parts later = both_true (is_written m.name) _ i w
    by_order Equal parts later = w
    by_order Greater parts later = both_true (is_written first.name) _ parts.0 later

pub all_written : (flag : Bool) (texts : List (List ℕ)) (rules : List (Member Bool))
    → are_written rules ≡ true → list_all is_written texts ≡ true
    → are_written (fold with_rule rules (flagged flag texts)) ≡ true
all_written flag [] rules w i = w
all_written flag (first ∷ rest) rules w i =
    let parts = both (is_written first) (list_all is_written rest) i in
    all_written flag rest (with_rule rules (record { name = first; value = flag }))
    (with_written rules (record { name = first; value = flag }) w parts.0) parts.1

pub from_written : (included excluded : List (List ℕ)) → list_all is_written included ≡ true
    → list_all is_written excluded ≡ true → are_written (rules_from included excluded) ≡ true
from_written included excluded i e =
    all_written false excluded (fold with_rule [] (flagged true included))
    (all_written true included [] refl i) e

pub written_more : (texts : List (List ℕ)) (text : List ℕ) → list_all is_written texts ≡ true
    → is_written text ≡ true → list_all is_written (texts ++ text ∷ []) ≡ true
written_more [] text w i = both_true (is_written text) true i refl
written_more (first ∷ rest) text w i =
    let parts = both (is_written first) (list_all is_written rest) w in
    both_true (is_written first) (list_all is_written (rest ++ text ∷ [])) parts.0
    (written_more rest text parts.1 i)

-- ---- what the code asks, one after another

abbrev pub no_rules : Option (List (Member Bool))
no_rules = None

pub when_shared : (mode : Mode) (included excluded : List (List ℕ)) (rules : List (Member Bool))
    → rules ≡ fold with_rule [] (flagged true included)
    → true ≡ list_any (λ text. is_some (under text rules)) excluded
    → no_rules ≡ if_allowed mode included excluded
when_shared mode included excluded rules r e =
    let shared : share included excluded ≡ true =
    sym (shares included excluded)
    ∙ ap (λ l. list_any (λ text. is_some (under text l)) excluded) (sym r) ∙ sym e in
    by_test (says_of_all mode included excluded) (share included excluded) shared
  where
    by_test : (a b : Bool) → b ≡ true → no_rules ≡ cond (a && not b) (Some (rules_from included excluded)) None
    by_test true true e = refl
    by_test false true e = refl
    by_test a false e = absurd (cc)

pub when_apart : (mode : Mode) (included excluded : List (List ℕ)) (rules : List (Member Bool))
    → rules ≡ fold with_rule [] (flagged true included)
    → false ≡ list_any (λ text. is_some (under text rules)) excluded
    → if_holds mode (fold with_rule rules (flagged false excluded)) ≡ if_allowed mode included excluded
when_apart mode included excluded rules r e =
    let apart : share included excluded ≡ false =
    sym (shares included excluded)
    ∙ ap (λ l. list_any (λ text. is_some (under text l)) excluded) (sym r) ∙ sym e in
    ap (λ l. if_holds mode (fold with_rule l (flagged false excluded))) r
    ∙ ap (λ b. cond b (Some (rules_from included excluded)) None) (says mode included excluded)
    ∙ by_test (says_of_all mode included excluded) (share included excluded) apart
  where
    by_test : (a b : Bool) → b ≡ false
        → cond a (Some (rules_from included excluded)) None
        ≡ cond (a && not b) (Some (rules_from included excluded)) None
    by_test true false e = refl
    by_test false false e = refl
    by_test a true e = absurd (cc)
