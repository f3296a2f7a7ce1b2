-- The canonical text of a tree is passed over exactly: what follows it is left, at the same depth.
use Rattle.std.proofs.Common.{◌≡◌, ℕ, zero, suc, ◌-◌, ◌/◌, ◌%◌, ◌<◌, ◌≤◌, Bool, true, false, cond, ◌==◌, List, [], ◌∷◌, ◌++◌, map, Some, inl, inr, ◌⊎◌, ℤ, pos, negsuc, refl, sym, ap, ◌∙◌, subst, arith, append_assoc, nat_lt}
use Rattle.std.proofs.lemmas.Bool.{cases_eq, cases_lt, ne_eqb, lt-ltb}
use Rattle.std.proofs.lemmas.Bool.Decides.{nat_tests}
use Rattle.std.specs.Char.{digit_char}
use Rattle.std.specs.Fmt.{digits, digits_onto, digit_glyph, decimal, signed_decimal}
use Rattle.std.specs.List.{join_with_byte}
use Rattle.std.specs.Option.{option_and_then}
use Rattle.json.specs.Print.{escape_letter, escape_byte, escape, quoted}
use Rattle.json.proofs.Printed.Strings.{escape_byte_plain}
use Rattle.ax_tree.specs.declared.members.Member.{Member}
use Rattle.ax_tree.specs.declared.tree.Tree.{Tree}
use Rattle.ax_tree.specs.declared.tree.Tree.TheOpen.{Tree-F}
use Rattle.ax_tree.specs.declared.tree.Tree.TheViews.{roll-Tree}
use Rattle.ax_tree.specs.declared.tree.Tree.TheFolds.{map-Tree, fold-roll-Tree, ind-Tree}
use Rattle.ax_tree.specs.CanonicalText.{comma, member_text, in_brackets, text_level, canonical_text}
use Rattle.ax_skim.specs.declared.role.ByteRole.TheVariants.{Opening, Closing, Comma, Other}
use Rattle.ax_skim.specs.Roles.{role_of}
use Rattle.ax_skim.specs.Members.{with_text}
use Rattle.ax_skim.specs.Skipping.{text_step, past_text, outside, step, past}
use Rattle.ax_skim.proofs.Steps.{steps}

-- ---- texts

other_in_text : (x : ℕ) (more : List ℕ) → role_of x ≡ Other
    → past_text false (x ∷ more) ≡ past_text false more
other_in_text x more is = ap (λ m. text_step false m more (λ e. past_text e more)) is

neither : (o c k : Bool) (more : List ℕ)
    → text_step false (cond o Opening (cond c Closing (cond k Comma Other))) more (λ e. past_text e more)
    ≡ past_text false more
neither true c k more = refl
neither false true k more = refl
neither false false true more = refl
neither false false false more = refl

pub plain_in_text : (x : ℕ) (more : List ℕ) → (x ≡ 34 → ⊥) → (x ≡ 92 → ⊥)
    → past_text false (x ∷ more) ≡ past_text false more
unfolding role_of
plain_in_text x more quote backslash =
    rw (ne_eqb x 34 quote, ne_eqb x 92 backslash) (neither _ _ _ more)

hex_is_other : (d : ℕ) → d < 16 → role_of (digit_char d) ≡ Other
unfolding role_of
hex_is_other d small = grind (arith, nat_tests)

control_in_text : (b : Bool) (letter x : ℕ) (more : List ℕ) → x < 32
    → past_text false (cond b (92 ∷ letter ∷ [])
    (92 ∷ 117 ∷ 48 ∷ 48 ∷ digit_char (x / 16) ∷ digit_char (x % 16) ∷ []) ++ more)
    ≡ past_text false more
unfolding role_of
control_in_text true letter x more small = refl
control_in_text false letter x more small =
    other_in_text (digit_char (x / 16)) _ (hex_is_other (x / 16) (omega arith))
    ∙ other_in_text (digit_char (x % 16)) more (hex_is_other (x % 16) (omega arith))

byte_in_text : (x : ℕ) (more : List ℕ)
    → past_text false (escape_byte x ++ more) ≡ past_text false more
unfolding escape_byte role_of
byte_in_text x more = go (cases_eq x 34) (cases_eq x 92) (cases_lt x 32)
  where
    go : (x ≡ 34) ⊎ (x ≡ 34 → ⊥) → (x ≡ 92) ⊎ (x ≡ 92 → ⊥) → (x < 32) ⊎ (32 ≤ x)
        → past_text false (escape_byte x ++ more) ≡ past_text false more
    go (inl e) b c =
        let P : ℕ → Type 0 = λ y. past_text false (escape_byte y ++ more) ≡ past_text false more in
        subst P (sym e) refl
    go (inr q) (inl e) c =
        let P : ℕ → Type 0 = λ y. past_text false (escape_byte y ++ more) ≡ past_text false more in
        subst P (sym e) refl
    go (inr q) (inr b) (inl c) =
        rw (lt-ltb x 32 c) (control_in_text (nat_lt 0 (escape_letter x)) (escape_letter x) x more c)
    go (inr q) (inr b) (inr l) =
        ap (λ l. past_text false (l ++ more)) (escape_byte_plain x q b l) ∙ plain_in_text x more q b

pub escape_in_text : (s more : List ℕ) → past_text false (escape s ++ 34 ∷ more) ≡ Some more
unfolding role_of
escape_in_text [] more = refl
escape_in_text (x ∷ s) more =
    ap (past_text false) (append_assoc (escape_byte x) (escape s) (34 ∷ more))
    ∙ byte_in_text x _ ∙ escape_in_text s more

-- ---- values

-- whatever follows is left, at the same depth
abbrev pub IsPassed : List ℕ → Type 0
IsPassed text = (depth : ℕ) (more : List ℕ) → past outside depth (text ++ more) ≡ past outside depth more

pub quoted_passed : (s : List ℕ) → IsPassed (quoted s)
unfolding role_of
quoted_passed s depth more =
    steps depth ((escape s ++ 34 ∷ []) ++ more)
    ∙ ap (λ l. option_and_then (past outside depth) (past_text false l))
    (append_assoc (escape s) (34 ∷ []) more)
    ∙ ap (option_and_then (past outside depth)) (escape_in_text s more)

digit_is_other : (d : ℕ) → d < 10 → role_of (digit_glyph false d) ≡ Other
unfolding role_of
digit_is_other d small = grind (arith, nat_tests)

other_passed : (x depth : ℕ) (more : List ℕ) → role_of x ≡ Other
    → past outside depth (x ∷ more) ≡ past outside depth more
other_passed x depth more is =
    ap (λ m. step outside m depth (x ∷ more) (λ p d. past p d more)) is

-- bytes that begin and end nothing
abbrev pub AreOther : List ℕ → Type 0
AreOther [] = Unit {0}
AreOther (x ∷ xs) = (role_of x ≡ Other) × AreOther xs

others_passed : (text : List ℕ) → AreOther text → IsPassed text
others_passed [] all depth more = refl
others_passed (x ∷ xs) all depth more =
    other_passed x depth (xs ++ more) all.0 ∙ others_passed xs all.1 depth more

either_other : (b : Bool) (text other : List ℕ) → AreOther text → AreOther other
    → AreOther (cond b text other)
either_other true text other p q = p
either_other false text other p q = q

onto_other : (k n : ℕ) (acc : List ℕ) → AreOther acc → AreOther (digits_onto k 10 false n acc)
onto_other zero n acc all = all
onto_other (suc k) n acc all =
    let digit = digit_is_other (n % 10) (omega arith) in
    either_other (n / 10 == 0) (digit_glyph false (n % 10) ∷ acc) _ (digit, all)
    (onto_other k (n / 10) (digit_glyph false (n % 10) ∷ acc) (digit, all))

decimal_other : (n : ℕ) → AreOther (decimal n)
unfolding digits
decimal_other n = onto_other 64 n [] tt

pub signed_other : (z : ℤ) → AreOther (signed_decimal z)
unfolding role_of
signed_other (pos n) = decimal_other n
signed_other (negsuc n) = (refl, decimal_other (suc n))

truth_passed : (b : Bool) → IsPassed (text_level (Tree-F.Truth b))
unfolding role_of
truth_passed true depth more = refl
truth_passed false depth more = refl

-- ---- items and members

abbrev ArePassed : List (List ℕ) → Type 0
ArePassed [] = Unit {0}
ArePassed (t ∷ ts) = IsPassed t × ArePassed ts

comma_passed : (depth : ℕ) (more : List ℕ)
    → past outside (suc depth) (comma ∷ more) ≡ past outside (suc depth) more
unfolding role_of
comma_passed depth more = rw (ne_eqb (suc depth) 0 (λ e. absurd (omega (arith, e)))) refl

closing_passed : (bracket depth : ℕ) (more : List ℕ) → role_of bracket ≡ Closing
    → past outside (suc depth) (bracket ∷ more) ≡ past outside depth more
closing_passed bracket depth more is =
    let less : suc depth - 1 ≡ depth = omega arith in
    ap (λ m. step outside m (suc depth) (bracket ∷ more) (λ p d. past p d more)) is
    ∙ rw (ne_eqb (suc depth) 0 (λ e. absurd (omega (arith, e)))) (ap (λ d. past outside d more) less)

joined_passed : (ts : List (List ℕ)) → ArePassed ts → (depth : ℕ) (more : List ℕ)
    → past outside (suc depth) (join_with_byte comma ts ++ more) ≡ past outside (suc depth) more
joined_passed [] all depth more = refl
joined_passed (t ∷ []) all depth more = all.0 (suc depth) more
joined_passed (t ∷ u ∷ ts) all depth more =
    ap (past outside (suc depth)) (append_assoc t (comma ∷ join_with_byte comma (u ∷ ts)) more)
    ∙ all.0 (suc depth) _ ∙ comma_passed depth _ ∙ joined_passed (u ∷ ts) all.1 depth more

brackets_passed : (first last : ℕ) (ts : List (List ℕ)) → role_of first ≡ Opening
    → role_of last ≡ Closing → ArePassed ts → IsPassed (in_brackets first last ts)
brackets_passed first last ts opens closes all depth more =
    let inner = (join_with_byte comma ts ++ last ∷ []) ++ more in
    ap (λ m. step outside m depth (first ∷ inner) (λ p d. past p d inner)) opens
    ∙ ap (past outside (suc depth)) (append_assoc (join_with_byte comma ts) (last ∷ []) more)
    ∙ joined_passed ts all depth (last ∷ more) ∙ closing_passed last depth more closes

pub member_passed : (name value : List ℕ) → IsPassed value
    → IsPassed (member_text (record { name = name; value = value }))
unfolding role_of
member_passed name value passed depth more =
    ap (past outside depth) (append_assoc (quoted name) (58 ∷ value) more)
    ∙ quoted_passed name depth (58 ∷ (value ++ more)) ∙ passed depth more

-- ---- trees

abbrev Kept : Type 0
Kept = (t : Tree) × IsPassed (canonical_text t)

abbrev tree_of : Kept → Tree
tree_of e = e.0

abbrev member_of : Member Kept → Member Tree
member_of m = record { name = m.name; value = tree_of m.value }

items_passed : (es : List Kept) → ArePassed (map canonical_text (map tree_of es))
items_passed [] = tt
items_passed (e ∷ es) = (e.1, items_passed es)

members_passed : (ms : List (Member Kept))
    → ArePassed (map member_text (map with_text (map member_of ms)))
members_passed [] = tt
members_passed (m ∷ ms) = (member_passed m.name (canonical_text m.value.0) m.value.1, members_passed ms)

level : (y : Tree-F Kept)
    → IsPassed (text_level (map-Tree Tree (List ℕ) canonical_text (map-Tree Kept Tree tree_of y)))
unfolding role_of
level Tree-F.Null = λ depth more. refl
level (Tree-F.Truth b) = truth_passed b
level (Tree-F.Number z) = others_passed (signed_decimal z) (signed_other z)
level (Tree-F.Text s) = quoted_passed s
level (Tree-F.List es) = brackets_passed 91 93 _ refl refl (items_passed es)
level (Tree-F.Object ms) = brackets_passed 123 125 _ refl refl (members_passed ms)

pub text-roll : (x : Tree-F Tree)
    → canonical_text (roll-Tree x) ≡ text_level (map-Tree Tree (List ℕ) canonical_text x)
text-roll = fold-roll-Tree (List ℕ) text_level

roll_passed : (y : Tree-F Kept) → IsPassed (canonical_text (roll-Tree (map-Tree Kept Tree tree_of y)))
roll_passed y = subst IsPassed (sym (text-roll (map-Tree Kept Tree tree_of y))) (level y)

pub tree_passed : (t : Tree) → IsPassed (canonical_text t)
tree_passed =
    ind-Tree (λ t. IsPassed (canonical_text t))
    (λ x y is. subst (λ z. IsPassed (canonical_text (roll-Tree z))) is (roll_passed y))
