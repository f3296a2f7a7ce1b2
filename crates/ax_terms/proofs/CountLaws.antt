-- What the steps of a count come to.
use Rattle.std.proofs.Common.{◌≡◌, ℕ, ◌+◌, List, [], ◌∷◌, ◌++◌, Bool, true, false, not, cond, ◌||◌, suc, ◌<◌, ◌≤◌, drop, get_or, drop-cons, None, option_and_then, reverse, length, map, max, refl, sym, ap, ap₂, ◌∙◌, subst, arith, append_assoc, length-append}
use Rattle.std.proofs.Math.ListN.{drop_of_length-le}
use Rattle.std.proofs.lemmas.List.{append-nil, map-append, reverse-append}
use Rattle.std.proofs.lemmas.List.Concat.{flat_map-append}
use Rattle.std.proofs.lemmas.List.Folds.{list_any-append}
use Rattle.std.proofs.lemmas.Map.Text.{is_eq-slice_cmp}
use Rattle.std.specs.BTreeMap.{btree_map_len, get, is_at}
use Rattle.std.specs.BTreeSet.{Updates, contains}
use Rattle.std.specs.Cmp.Lexicographic.{slice_cmp}
use Rattle.std.specs.List.{flat_map, list_any, sum_by}
use Rattle.std.specs.Map.{lookup}
use Rattle.std.specs.Option.{unwrap_or}
use Rattle.std.specs.Ordering.{nat_cmp}
use Rattle.std.specs.Set.{is_member, unique_keys}
use Rattle.std.specs.Str.{bytes_eq}
use Rattle.ax_tree.specs.declared.members.Member.{Member}
use Rattle.ax_tree.specs.declared.tree.Tree.{Tree}
use Rattle.ax_tree.specs.Nesting.{greatest}
use Rattle.ax_mean.specs.declared.query.Step.{Step}
use Rattle.ax_mean.specs.declared.query.Step.TheVariants.{Item, Name}
use Rattle.ax_mean.specs.declared.value.Value.TheVariants.{Defined}
use Rattle.ax_term.specs.CutValues.{cut_of}
use Rattle.ax_term.specs.TermBytes.{step_bytes, path_bytes, value_bytes}
use Rattle.ax_terms.specs.declared.counter.Counter.{Counter}
use Rattle.ax_terms.specs.declared.counter.Place.{Place}
use Rattle.ax_terms.specs.Counting.{AreNumbered, AreNumbers, Counted, Counts, Gives, HasNumber, IsAt, IsStepTo, Keeps, key_of, number_back, numbers_in}
use Rattle.ax_terms.specs.Counts.{capped, counts_of, distinct_terms, path_size, term_count}
use Rattle.ax_terms.specs.Leaves.{Leaf, alone, behind, below, item_leaves, leaves, leaves_in, member_leaves}
use Rattle.ax_terms.specs.TermsOf.{leaf_term}
use Rattle.ax_terms.proofs.Distinct.{greatest_more, length_more, sum_more, symmetric}
use Rattle.ax_terms.proofs.PathNumbers.{kept_back, keys_kept, none_is_not, numbered_kept, numbered_more, same_member}

-- ---- one list of leaves after another

pub counted_none : (c : Counter) (at : Place) → Counted c at [] c
counted_none c at = record {
  keeps = λ k n e. e;
  counts = λ path done is ca. subst (Counts c) (sym (append-nil done)) ca;
}

is_still_at : (a b : Counter) (path : List Step) (at : Place) → Keeps (numbers_in a) (numbers_in b)
    → IsAt a path at → IsAt b path at
is_still_at a b path at k is = record {
  number = kept_back _ _ k (reverse path) at.number is.number;
  size = is.size;
}

pub counted_both : (a b c : Counter) (at : Place) (xs ys : List Leaf) → Counted a at xs b
    → Counted b at ys c → Counted a at (xs ++ ys) c
counted_both a b c at xs ys f g = record {
  keeps = λ k n e. g.keeps k n (f.keeps k n e);
  counts = λ path done is ca.
      let first = f.counts path done is ca in
      let then = g.counts path _ (is_still_at a b path at f.keeps is) first in
      let e : (done ++ map (below path) xs) ++ map (below path) ys ≡ done ++ map (below path) (xs ++ ys) =
      append_assoc done _ _ ∙ ap (λ ls. done ++ ls) (sym (map-append (below path) xs ys)) in
      subst (Counts c) e then;
}

below_behind : (path : List Step) (step : Step) (xs : List Leaf)
    → map (below (path ++ step ∷ [])) xs ≡ map (below path) (map (behind step) xs)
below_behind path step [] = refl
below_behind path step (x ∷ xs) =
    let first = append_assoc path (step ∷ []) x.path in
    let rest = below_behind path step xs in
    λ i. record { path = first i; tree = x.tree } ∷ rest i

-- a tree one step behind the place
pub counted_behind : (a b c : Counter) (at place : Place) (step : Step) (xs : List Leaf)
    → IsStepTo a at step place b → Counted b place xs c → Counted a at (map (behind step) xs) c
counted_behind a b c at place step xs s f = record {
  keeps = λ k n e. f.keeps k n (s.keeps k n e);
  counts = λ path done is ca.
      subst (λ ls. Counts c (done ++ ls)) (below_behind path step xs)
      (f.counts (path ++ step ∷ []) done (s.leads path is) (s.counts done ca));
}

-- ---- the trees of a list, and those of a map

next : {A : Type 0} (xs : List A) (i : ℕ) (x : A) → i < length xs → x ≡ get_or xs i x
    → drop i xs ≡ x ∷ drop (i + 1) xs
next xs i x low is =
    drop-cons xs i x low ∙ ap (λ y. y ∷ drop (suc i) xs) (sym is)
    ∙ ap (λ n. x ∷ drop n xs) (let e : suc i ≡ i + 1 = omega arith in e)

pub item_counted : (a b c : Counter) (place : Place) (whole : List Leaf) (items : List Tree) (i : ℕ) (item : Tree)
    → i < length items → item ≡ get_or items i item → Counted b place (leaves item) c
    → ((after : Counter) → Counted b place (flat_map leaves (drop i items)) after → Counted a place whole after)
    → (after : Counter) → Counted c place (flat_map leaves (drop (i + 1) items)) after
    → Counted a place whole after
item_counted a b c place whole items i item low is one goes after rest =
    goes after
    (subst (λ ts. Counted b place (flat_map leaves ts) after) (sym (next items i item low is))
    (counted_both b c after place (leaves item) (flat_map leaves (drop (i + 1) items)) one rest))

items_behind : (items : List Tree)
    → map (behind Item) (flat_map leaves items) ≡ flat_map item_leaves (map leaves items)
items_behind [] = refl
items_behind (item ∷ items) =
    map-append (behind Item) (leaves item) (flat_map leaves items)
    ∙ ap (λ ls. map (behind Item) (leaves item) ++ ls) (items_behind items)

-- all items, seen from the list
pub items_counted : (a b c : Counter) (at place : Place) (items all : List Tree) → items ≡ all
    → IsStepTo a at Item place b → Counted b place (flat_map leaves items) c
    → Counted a at (flat_map item_leaves (map leaves all)) c
items_counted a b c at place items all e s f =
    subst (λ ls. Counted a at ls c)
    (items_behind items ∙ ap (λ ts. flat_map item_leaves (map leaves ts)) e)
    (counted_behind a b c at place Item (flat_map leaves items) s f)

pub member_counted : (a b c d : Counter) (at place : Place) (whole : List Leaf) (members : List (Member Tree))
    (i : ℕ) (m : Member Tree) → i < length members → m ≡ get_or members i m
    → IsStepTo b at (Name m.name) place c → Counted c place (leaves m.value) d
    → ((after : Counter) → Counted b at (flat_map member_leaves (map leaves_in (drop i members))) after
    → Counted a at whole after)
    → (after : Counter) → Counted d at (flat_map member_leaves (map leaves_in (drop (i + 1) members))) after
    → Counted a at whole after
member_counted a b c d at place whole members i m low is step one goes after rest =
    goes after
    (subst (λ ms. Counted b at (flat_map member_leaves (map leaves_in ms)) after) (sym (next members i m low is))
    (counted_both b d after at (member_leaves (leaves_in m)) _ (counted_behind b c d at place (Name m.name) (leaves m.value) step one) rest))

-- nothing is left to be counted
pub items_end : (c : Counter) (place : Place) (items : List Tree) (i : ℕ) → length items ≤ i
    → Counted c place (flat_map leaves (drop i items)) c
items_end c place items i high =
    subst (λ ts. Counted c place (flat_map leaves ts) c) (sym (drop_of_length-le items high)) (counted_none c place)

pub members_end : (c : Counter) (at : Place) (members : List (Member Tree)) (i : ℕ) → length members ≤ i
    → Counted c at (flat_map member_leaves (map leaves_in (drop i members))) c
members_end c at members i high =
    subst (λ ms. Counted c at (flat_map member_leaves (map leaves_in ms)) c) (sym (drop_of_length-le members high))
    (counted_none c at)

pub members_counted : (a c : Counter) (at : Place) (members all : List (Member Tree)) → members ≡ all
    → Counted a at (flat_map member_leaves (map leaves_in members)) c
    → Counted a at (flat_map member_leaves (map leaves_in all)) c
members_counted a c at members all e f =
    subst (λ ms. Counted a at (flat_map member_leaves (map leaves_in ms)) c) e f

from_the_top : (xs : List Leaf) → map (below []) xs ≡ xs
from_the_top [] = refl
from_the_top (x ∷ xs) = ap (λ ls. x ∷ ls) (from_the_top xs)

-- a whole document
pub all_counted : (a b : Counter) (given : Tree) → Counts a []
    → Counted a (record { number = 0; size = 0 }) (leaves given) b → b.counts ≡ term_count given
all_counted a b given none f =
    (f.counts [] [] (record { number = refl; size = refl }) none).counts
    ∙ ap counts_of (from_the_top (leaves given))

-- ---- the beginning

pub begins : (counter : Counter) → counter.numbers.entries ≡ [] → counter.seen.keys ≡ []
    → counter.counts ≡ record { count = 0; bytes = 0; longest_path = 0 } → Counts counter []
begins counter n s c =
    let absent : (key : List ℕ) → numbers_in counter key ≡ None = λ key.
    ap (λ es. lookup (is_at (slice_cmp nat_cmp key)) es) n in
    record {
      numbers = record {
        above = λ key n e. none_is_not (sym (absent key) ∙ e);
        within = λ key n e. none_is_not (sym (absent key) ∙ e);
        one = λ a b n e f. none_is_not (sym (absent a) ∙ e);
      };
      numbered = tt;
      seen = λ key. ap (λ ks. list_any (is_at (slice_cmp nat_cmp key)) ks) s;
      counts = c;
    }

-- ---- one step

capped_more : (a b n : ℕ) → a ≡ capped n → capped (a + b) ≡ capped (n + b)
capped_more a b n e = ap (λ x. capped (x + b)) e ∙ twice n b where
  twice : (n b : ℕ) → capped (capped n + b) ≡ capped (n + b)
  twice n b = omega arith

steps_size : (path : List Step) (step : Step)
    → length (flat_map step_bytes (path ++ step ∷ []))
    ≡ length (flat_map step_bytes path) + length (step_bytes step)
steps_size path step =
    ap length (flat_map-append step_bytes path (step ∷ []) ∙ ap (λ bs. flat_map step_bytes path ++ bs) (append-nil (step_bytes step)))
    ∙ length-append (flat_map step_bytes path) (step_bytes step)

pub is_behind : (old new : Counter) (at place : Place) (key : List ℕ) (size : ℕ)
    → Gives old.numbers key place.number new.numbers → new.seen ≡ old.seen → new.counts ≡ old.counts
    → place.size ≡ capped (at.size + size) → length key ≡ size + 1
    → (step : Step) → key ≡ at.number ∷ step_bytes step → IsStepTo old at step place new
is_behind old new at place key size g seen counts sized long step is_key =
    let size_is : size ≡ length (step_bytes step) =
    let e : suc (length (step_bytes step)) ≡ size + 1 = sym (ap length is_key) ∙ long in omega (arith, e) in
    record {
      keeps = g.keeps;
      leads = λ path is. record {
        number =
            ap (number_back (numbers_in new)) (reverse-append path (step ∷ []))
            ∙ ap (option_and_then (λ n. numbers_in new (n ∷ step_bytes step)))
            (kept_back _ _ g.keeps (reverse path) at.number is.number)
            ∙ ap (numbers_in new) (sym is_key) ∙ g.given;
        size =
            sized ∙ ap (λ n. capped (at.size + n)) size_is
            ∙ capped_more at.size (length (step_bytes step)) (length (flat_map step_bytes path)) is.size
            ∙ ap capped (sym (steps_size path step));
      };
      counts = λ done ca. record {
        numbers = g.numbers ca.numbers;
        numbered = numbered_kept _ _ g.keeps done ca.numbered;
        seen = λ k.
            ap (λ s. contains (slice_cmp nat_cmp) s k) seen ∙ ca.seen k
            ∙ ap (λ ks. is_member bytes_eq ks k) (keys_kept _ _ g.keeps done ca.numbered);
        counts = counts ∙ ca.counts;
      };
    }

-- ---- one leaf

or_by : (a b : Bool) → cond a true b ≡ (b || (a || false))
or_by true true = refl
or_by true false = refl
or_by false true = refl
or_by false false = refl

sized : (p v : ℕ) → capped (capped (capped p + 1) + v) ≡ capped (suc (p + v))
sized p v = omega arith

capped_part : (b : Bool) (n m : ℕ) → capped (n + cond b 0 (capped m)) ≡ capped (n + cond b 0 m)
capped_part true n m = refl
capped_part false n m = omega arith

capped_max : (n m : ℕ) → max (capped n) (capped m) ≡ capped (max n m)
capped_max n m = omega arith

one_or_none : (b : Bool) (n : ℕ) → cond (not b) n 0 ≡ cond b 0 n
one_or_none true n = refl
one_or_none false n = refl

path_size_is : (path : List Step) → length (path_bytes path) ≡ length (flat_map step_bytes path) + 1
path_size_is [] = refl
path_size_is (step ∷ path) =
    let e = path_size_is path in
    let f = length-append (step_bytes step) (path_bytes path) in
    let g = length-append (step_bytes step) (flat_map step_bytes path) in
    omega (arith, e, f, g)

-- what becomes of the counter where a leaf is counted
pub record SeesLeaf (old : Counter) (at : Place) (tree : Tree) (new : Counter) : Type 0 where
  pub key : List ℕ
  pub added : Bool
  pub value : ℕ
  pub path : ℕ
  pub size : ℕ
  pub key_is : key ≡ at.number ∷ value_bytes (cut_of (Defined tree))
  pub value_is : length key ≡ value + 1
  pub path_is : path ≡ capped (at.size + 1)
  pub size_is : size ≡ capped (capped (path + 1) + value)
  pub numbers : new.numbers ≡ old.numbers
  pub updates : Updates (slice_cmp nat_cmp) old.seen new.seen key true
  pub added_is : added ≡ not (contains (slice_cmp nat_cmp) old.seen key)
  pub counts_are : new.counts ≡ record {
    count = capped (old.counts.count + cond added 1 0);
    bytes = capped (old.counts.bytes + cond added size 0);
    longest_path = max old.counts.longest_path path;
  }

module _ (old new : Counter) (at : Place) (tree : Tree) (s : SeesLeaf old at tree new)
    (path : List Step) (done : List Leaf) (is : IsAt old path at) (ca : Counts old done) where
  abbrev leaf : Leaf
  leaf = record { path = path; tree = tree }

  abbrev among : Bool
  among = is_member bytes_eq (map leaf_term done) (leaf_term leaf)

  has_number : HasNumber (numbers_in old) leaf
  has_number = (at.number, is.number)

  the_key : key_of (numbers_in old) leaf ≡ s.key
  the_key =
      ap (λ o. unwrap_or o 0 ∷ value_bytes (cut_of (Defined tree))) is.number
      ∙ sym s.key_is

  was_among : contains (slice_cmp nat_cmp) old.seen s.key ≡ among
  was_among =
      ca.seen s.key
      ∙ ap (is_member bytes_eq (map (key_of (numbers_in old)) done)) (sym the_key)
      ∙ sym (same_member (numbers_in old) _ ca.numbers leaf has_number done ca.numbered)

  new_is : s.added ≡ not among
  new_is = s.added_is ∙ ap not was_among

  abbrev keys : List (List ℕ)
  keys = map (key_of (numbers_in old)) done

  seen_more : (k : List ℕ)
      → contains (slice_cmp nat_cmp) new.seen k
      ≡ is_member bytes_eq (map (key_of (numbers_in old)) (done ++ leaf ∷ [])) k
  seen_more k =
      s.updates.0 k ∙ ap (λ b. cond b true (contains (slice_cmp nat_cmp) old.seen k)) (is_eq-slice_cmp s.key k)
      ∙ or_by (bytes_eq s.key k) (contains (slice_cmp nat_cmp) old.seen k)
      ∙ ap₂ (λ b a. b || (a || false)) (ca.seen k) (symmetric s.key k ∙ ap (bytes_eq k) (sym the_key))
      ∙ sym (list_any-append (bytes_eq k) keys (key_of (numbers_in old) leaf ∷ []))
      ∙ ap (list_any (bytes_eq k)) (sym (map-append (key_of (numbers_in old)) done (leaf ∷ [])))

  the_path : s.path ≡ capped (length (path_bytes path))
  the_path =
      s.path_is ∙ capped_more at.size 1 (length (flat_map step_bytes path)) is.size
      ∙ ap capped (sym (path_size_is path))

  the_value : s.value ≡ length (value_bytes (cut_of (Defined tree)))
  the_value =
      let e : suc (length (value_bytes (cut_of (Defined tree)))) ≡ s.value + 1 = sym (ap length s.key_is) ∙ s.value_is in
      omega (arith, e)

  the_size : s.size ≡ capped (length (leaf_term leaf))
  the_size =
      s.size_is ∙ ap (λ n. capped (capped (s.path + 1) + n)) the_value
      ∙ ap (λ n. capped (capped (n + 1) + length (value_bytes (cut_of (Defined tree))))) the_path
      ∙ sized (length (path_bytes path)) (length (value_bytes (cut_of (Defined tree))))
      ∙ ap (λ n. capped (suc n)) (sym (length-append (path_bytes path) (value_bytes (cut_of (Defined tree)))))

  abbrev terms : List (List ℕ)
  terms = map leaf_term done

  terms_more : map leaf_term (done ++ leaf ∷ []) ≡ terms ++ leaf_term leaf ∷ []
  terms_more = map-append leaf_term done (leaf ∷ [])

  count_more : new.counts.count ≡ capped (length (distinct_terms (done ++ leaf ∷ [])))
  count_more =
      ap (λ c. c.count) s.counts_are
      ∙ capped_more old.counts.count (cond s.added 1 0) (length (distinct_terms done)) (ap (λ c. c.count) ca.counts)
      ∙ ap (λ b. capped (length (distinct_terms done) + cond b 1 0)) new_is
      ∙ ap (λ n. capped (length (distinct_terms done) + n)) (one_or_none among 1)
      ∙ ap capped (sym (length_more terms (leaf_term leaf)))
      ∙ ap (λ ts. capped (length (unique_keys bytes_eq ts))) (sym terms_more)

  bytes_more : new.counts.bytes ≡ capped (sum_by length (distinct_terms (done ++ leaf ∷ [])))
  bytes_more =
      ap (λ c. c.bytes) s.counts_are
      ∙ capped_more old.counts.bytes (cond s.added s.size 0) (sum_by length (distinct_terms done)) (ap (λ c. c.bytes) ca.counts)
      ∙ ap (λ b. capped (sum_by length (distinct_terms done) + cond b s.size 0)) new_is
      ∙ ap (λ n. capped (sum_by length (distinct_terms done) + n)) (one_or_none among s.size)
      ∙ ap (λ n. capped (sum_by length (distinct_terms done) + cond among 0 n)) the_size
      ∙ capped_part among (sum_by length (distinct_terms done)) (length (leaf_term leaf))
      ∙ ap capped (sym (sum_more terms (leaf_term leaf)))
      ∙ ap (λ ts. capped (sum_by length (unique_keys bytes_eq ts))) (sym terms_more)

  path_more : new.counts.longest_path ≡ capped (greatest (map path_size (done ++ leaf ∷ [])))
  path_more =
      ap (λ c. c.longest_path) s.counts_are
      ∙ ap₂ max (ap (λ c. c.longest_path) ca.counts) the_path
      ∙ capped_max (greatest (map path_size done)) (length (path_bytes path))
      ∙ ap capped (sym (greatest_more (map path_size done) (path_size leaf)))
      ∙ ap (λ ns. capped (greatest ns)) (sym (map-append path_size done (leaf ∷ [])))

  counts_leaf : Counts new (done ++ leaf ∷ [])
  counts_leaf = record {
    numbers = subst (λ m. AreNumbers (get (slice_cmp nat_cmp) m) (btree_map_len m)) (sym s.numbers) ca.numbers;
    numbered =
        subst (λ m. AreNumbered (get (slice_cmp nat_cmp) m) (done ++ leaf ∷ [])) (sym s.numbers)
        (numbered_more (numbers_in old) done leaf ca.numbered has_number);
    seen = λ k.
        seen_more k
        ∙ ap (λ m. is_member bytes_eq (map (key_of (get (slice_cmp nat_cmp) m)) (done ++ leaf ∷ [])) k) (sym s.numbers);
    counts = λ i. record { count = count_more i; bytes = bytes_more i; longest_path = path_more i };
  }

pub one_more : (old new : Counter) (at : Place) (tree : Tree) → SeesLeaf old at tree new
    → Counted old at (alone tree) new
one_more old new at tree s = record {
  keeps = λ k n e. ap (λ m. get (slice_cmp nat_cmp) m k) s.numbers ∙ e;
  counts = λ path done is ca.
      subst (λ p. Counts new (done ++ record { path = p; tree = tree } ∷ [])) (sym (append-nil path))
      (counts_leaf old new at tree s path done is ca);
}
