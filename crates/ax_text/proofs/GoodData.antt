-- Data whose text stands for it: numbers that read back, texts and names that are UTF-8, names that
-- rise. It is read from its compact text as itself.
use Rattle.std.proofs.Common.{◌≡◌, ℕ, ◌≤◌, suc, max, List, [], ◌∷◌, ◌++◌, Bool, true, false, Option, Some, option_map, option_and_then, IsUtf8, refl, sym, ap, ap₂, ◌∙◌, append-nil, arith}
use Rattle.std.proofs.lemmas.Str.{IsUtf8-append}
use Rattle.std.specs.Prelude.{⊤}
use Rattle.json.specs.Json as json
use Rattle.json.specs.Lex.{tokens}
use Rattle.json.specs.Print.{quoted}
use Rattle.json.specs.Token.{Token}
use Rattle.json.specs.Tree as shape
use Rattle.json.proofs.Printed.Tokens.{tokens-print}
use Rattle.json.proofs.Printed.Trees.{value-json_tokens, ArePrintable-json_tokens}
use Rattle.json.proofs.Printed.Utf8.{IsUtf8-are_ascii, IsUtf8-quoted, IsUtf8-boolean}
use Rattle.serde_json.specs.Data as serde
use Rattle.serde_json.specs.Read.{of_json, of_items, of_members, max_depth, read}
use Rattle.serde_json.specs.Written.{outline, items_outline, members_outline, compact_text, items_text, members_text, comma_if}
use Rattle.serde_json.proofs.Texts.{print-outline}
use Rattle.ax_tree.specs.Rising.{is_rising}
use Rattle.ax_text.proofs.RisingNames.{AreBefore, is_before_Greater, rising_before}
use Rattle.ax_tree.proofs.WholeNumbers.{ReadsBack}

abbrev pub data_names : serde.Members → List (List ℕ)
data_names serde.no_members = []
data_names (serde.member k d ms) = k ∷ data_names ms

abbrev mutual
  pub IsGood : serde.Data → Type 0
  IsGood serde.null = ⊤
  IsGood (serde.boolean b) = ⊤
  IsGood (serde.number n) = ReadsBack n
  IsGood (serde.string s) = IsUtf8 s
  IsGood (serde.array ds) = AreGood ds
  IsGood (serde.object ms) = (is_rising (data_names ms) ≡ true) × HasGoodMembers ms

  pub AreGood : serde.Items → Type 0
  AreGood serde.no_items = ⊤
  AreGood (serde.item d ds) = IsGood d × AreGood ds

  pub HasGoodMembers : serde.Members → Type 0
  HasGoodMembers serde.no_members = ⊤
  HasGoodMembers (serde.member k d ms) = IsUtf8 k × IsGood d × HasGoodMembers ms

-- ---- members whose names rise, put in one after another, stay in order

abbrev after : serde.Members → serde.Members → serde.Members
after serde.no_members rest = rest
after (serde.member k d ms) rest = serde.member k d (after ms rest)

after-none : (ms : serde.Members) → after ms serde.no_members ≡ ms
after-none serde.no_members = refl
after-none (serde.member k d ms) = ap (serde.member k d) (after-none ms)

after-more : (prefix : serde.Members) (k : List ℕ) (d : serde.Data) (ms : serde.Members)
    → after (after prefix (serde.member k d serde.no_members)) ms ≡ after prefix
    (serde.member k d ms)
after-more serde.no_members k d ms = refl
after-more (serde.member l e prefix) k d ms = ap (serde.member l e) (after-more prefix k d ms)

names-more : (prefix : serde.Members) (k : List ℕ) (d : serde.Data) (names : List (List ℕ))
    → data_names (after prefix (serde.member k d serde.no_members)) ++ names ≡ data_names prefix ++
    k ∷ names
names-more serde.no_members k d names = refl
names-more (serde.member l e prefix) k d names = ap (λ l'. l ∷ l') (names-more prefix k d names)

put-end : (prefix : serde.Members) (k : List ℕ) (d : serde.Data) → AreBefore (data_names prefix) k
    → serde.put k d prefix ≡ after prefix (serde.member k d serde.no_members)
put-end serde.no_members k d before = refl
put-end (serde.member l e prefix) k d before =
    rw (is_before_Greater l k before.0) (ap (serde.member l e) (put-end prefix k d before.1))

mutual
  of_json-outline : (d : serde.Data) → IsGood d → of_json (outline d) ≡ Some d
  of_json-outline serde.null h = refl
  of_json-outline (serde.boolean b) h = refl
  of_json-outline (serde.number n) h = ap (option_map serde.number) h.value
  of_json-outline (serde.string s) h = refl
  of_json-outline (serde.array ds) h = ap (option_map serde.array) (of_items-outline ds h)
  of_json-outline (serde.object ms) h =
      ap (option_map serde.object) (of_members-outline ms serde.no_members h.0 h.1)

  of_items-outline : (ds : serde.Items) → AreGood ds → of_items (items_outline ds) ≡ Some ds
  of_items-outline serde.no_items h = refl
  of_items-outline (serde.item d ds) h =
      ap₂ (λ a b. option_and_then (λ e. option_map (serde.item e) b) a) (of_json-outline d h.0)
      (of_items-outline ds h.1)

  of_members-outline : (ms found : serde.Members)
      → is_rising (data_names found ++ data_names ms) ≡ true → HasGoodMembers ms
      → of_members (members_outline ms) found ≡ Some (after found ms)
  of_members-outline serde.no_members found rising h = ap Some (sym (after-none found))
  of_members-outline (serde.member k d ms) found rising h =
      ap (option_and_then (λ e. of_members (members_outline ms) (serde.put k e found)))
      (of_json-outline d h.1)
      ∙ ap (of_members (members_outline ms))
      (put-end found k d (rising_before (data_names found) k (data_names ms) rising))
      ∙ of_members-outline ms (after found (serde.member k d serde.no_members))
      (ap is_rising (names-more found k d (data_names ms)) ∙ rising) h.2
      ∙ ap Some (after-more found k d ms)

-- ---- the outline nests as deep, and its numbers are numbers

mutual
  depth-outline : (d : serde.Data) → shape.depth (outline d) ≡ serde.depth d
  depth-outline serde.null = refl
  depth-outline (serde.boolean b) = refl
  depth-outline (serde.number n) = refl
  depth-outline (serde.string s) = refl
  depth-outline (serde.array ds) = ap suc (items_depth-outline ds)
  depth-outline (serde.object ms) = ap suc (members_depth-outline ms)

  items_depth-outline : (ds : serde.Items)
      → shape.items_depth (items_outline ds) ≡ serde.items_depth ds
  items_depth-outline serde.no_items = refl
  items_depth-outline (serde.item d ds) = ap₂ max (depth-outline d) (items_depth-outline ds)

  members_depth-outline : (ms : serde.Members)
      → shape.members_depth (members_outline ms) ≡ serde.members_depth ms
  members_depth-outline serde.no_members = refl
  members_depth-outline (serde.member k d ms) = ap₂ max (depth-outline d) (members_depth-outline ms)

mutual
  numbers-outline : (d : serde.Data) → IsGood d → shape.HasNumbers (outline d)
  numbers-outline serde.null h = tt
  numbers-outline (serde.boolean b) h = tt
  numbers-outline (serde.number n) h = h.number
  numbers-outline (serde.string s) h = tt
  numbers-outline (serde.array ds) h = items_numbers-outline ds h
  numbers-outline (serde.object ms) h = members_numbers-outline ms h.1

  items_numbers-outline : (ds : serde.Items) → AreGood ds
      → shape.ItemsHaveNumbers (items_outline ds)
  items_numbers-outline serde.no_items h = tt
  items_numbers-outline (serde.item d ds) h = (numbers-outline d h.0, items_numbers-outline ds h.1)

  members_numbers-outline : (ms : serde.Members) → HasGoodMembers ms
      → shape.MembersHaveNumbers (members_outline ms)
  members_numbers-outline serde.no_members h = tt
  members_numbers-outline (serde.member k d ms) h =
      (numbers-outline d h.1, members_numbers-outline ms h.2)

-- ---- the text is UTF-8

utf8-comma : (later : Bool) (rest : List ℕ) → IsUtf8 rest → IsUtf8 (comma_if later ++ rest)
utf8-comma true rest u = IsUtf8-append (44 ∷ []) rest (IsUtf8-are_ascii (44 ∷ []) refl) u
utf8-comma false rest u = u

mutual
  utf8-compact : (d : serde.Data) → IsGood d → IsUtf8 (compact_text d)
  utf8-compact serde.null h = IsUtf8-are_ascii (compact_text serde.null) refl
  utf8-compact (serde.boolean b) h = IsUtf8-boolean b
  utf8-compact (serde.number n) h = h.utf8
  utf8-compact (serde.string s) h = IsUtf8-quoted s h
  utf8-compact (serde.array ds) h =
      IsUtf8-append (91 ∷ []) (items_text false ds) (IsUtf8-are_ascii (91 ∷ []) refl)
      (utf8-items false ds h)
  utf8-compact (serde.object ms) h =
      IsUtf8-append (123 ∷ []) (members_text false ms) (IsUtf8-are_ascii (123 ∷ []) refl)
      (utf8-members false ms h.1)

  utf8-items : (later : Bool) (ds : serde.Items) → AreGood ds → IsUtf8 (items_text later ds)
  utf8-items later serde.no_items h = IsUtf8-are_ascii (93 ∷ []) refl
  utf8-items later (serde.item d ds) h =
      utf8-comma later _
      (IsUtf8-append (compact_text d) (items_text true ds) (utf8-compact d h.0)
      (utf8-items true ds h.1))

  utf8-members : (later : Bool) (ms : serde.Members) → HasGoodMembers ms
      → IsUtf8 (members_text later ms)
  utf8-members later serde.no_members h = IsUtf8-are_ascii (125 ∷ []) refl
  utf8-members later (serde.member k d ms) h = utf8-comma later _
      (IsUtf8-append (quoted k) (58 ∷ (compact_text d ++ members_text true ms))
      (IsUtf8-quoted k h.0)
      (IsUtf8-append (58 ∷ []) (compact_text d ++ members_text true ms)
      (IsUtf8-are_ascii (58 ∷ []) refl)
      (IsUtf8-append (compact_text d) (members_text true ms) (utf8-compact d h.1)
      (utf8-members true ms h.2))))

-- what is read, where nothing follows the value
abbrev whole : Option (json.Json × List Token) → Option serde.Data
whole o = option_and_then of_json (option_and_then (λ p. json.if_last p.0 p.1) o)

pub utf8-text : (d : serde.Data) → IsGood d → IsUtf8 (compact_text d)
utf8-text d h = utf8-compact d h

-- the tokens of the text are those of the outline
pub tokens-text : (d : serde.Data) → IsGood d
    → tokens (compact_text d) ≡ shape.json_tokens (outline d)
tokens-text d h = ap tokens (sym (print-outline d))
    ∙ tokens-print (shape.json_tokens (outline d))
    (ArePrintable-json_tokens (outline d) (numbers-outline d h))

pub read-text : (d : serde.Data) → IsGood d → serde.depth d ≤ max_depth
    → read (compact_text d) ≡ Some d
read-text d h shallow =
    let same : shape.depth (outline d) ≡ serde.depth d = depth-outline d in
    let within : shape.depth (outline d) ≤ max_depth = omega arith in
    ap whole
    (ap (json.value max_depth) (tokens-text d h ∙ sym (append-nil _))
    ∙ value-json_tokens (outline d) max_depth [] within) ∙ of_json-outline d h
