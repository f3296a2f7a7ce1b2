-- Blocks of 64 bytes passed over by their bits.
use Rattle.std.proofs.Common.{◌≡◌, ℕ, zero, suc, ◌+◌, ◌-◌, ◌/◌, ◌^◌, ◌<◌, ◌≤◌, Bool, true, false, not, ◌&&◌, ◌||◌, ◌==◌, cond, List, ◌∷◌, length, get_or, drop, take, Option, Some, ◌⊎◌, inl, inr, refl, sym, ap, ap₂, ◌∙◌, arith, mod-lt, pow_pos}
use Rattle.std.proofs.Math.Seq.{drop-cons}
use Rattle.std.proofs.lemmas.List.{get_or-take}
use Rattle.std.proofs.lemmas.Bool.{eqb-true, ne_eqb, true≢false, cases_lt}
use Rattle.std.specs.Int.{bit_at}
use Rattle.std.proofs.lemmas.Nat.Bits.{bit_at-zero}
use lib.Bits.{bit_and, bit_or, bit_xor, xor_lt}
use Rattle.json.specs.Scan.{test, xor, parity}
use Rattle.ax_skim.proofs.BitTests.{test-and, test-or, test-xor, flip, test-flip, spread, test-spread, top_bit}
use Rattle.ax_skim.specs.declared.role.ByteRole.TheVariants.{Quote, Backslash, Opening, Closing, Comma, Other}
use Rattle.ax_skim.specs.Roles.{role_of}
use Rattle.ax_skim.specs.Skipping.{outside, step, past}
use Rattle.ax_skim.specs.declared.blocks.Block.{Block}
use Rattle.ax_skim.specs.Blocks.{is_opening, is_closing, is_within, IsBlock}
use Rattle.ax_skim.specs.Nested.{place_in}
use Rattle.ax_skim.specs.Walks.{Walk, closed, goes_on, walk_from}

-- ---- the bits of a block

swap : (p q c : Bool) → xor (xor p q) c ≡ xor (xor p c) q
swap true true true = refl
swap true true false = refl
swap true false true = refl
swap true false false = refl
swap false true true = refl
swap false true false = refl
swap false false true = refl
swap false false false = refl

within_along : (s : Bool) (text : List ℕ) (q : ℕ)
    → ((i : ℕ) → i < 64 → test q i ≡ (get_or text i 0 == 34)) → (i : ℕ) → i ≤ 64
    → xor (parity q i) s ≡ is_within s text i
unfolding parity
within_along s text q quotes zero h = refl
within_along s text q quotes (suc i) h =
    swap (parity q i) (test q i) s
    ∙ ap₂ xor (within_along s text q quotes i (omega arith)) (quotes i h)

no_bracket : (x : ℕ) → (x == 34) ≡ true → (is_opening x || is_closing x) ≡ false
no_bracket x is =
    let same : x ≡ 34 = eqb-true x 34 is in ap (λ y. is_opening y || is_closing y) same

turned : (w q b : Bool) → (q ≡ true → b ≡ false) → (b && not (xor w q)) ≡ (not w && b)
turned true true true none = absurd (true≢false (none refl))
turned true true false none = refl
turned true false true none = refl
turned true false false none = refl
turned false true true none = absurd (true≢false (none refl))
turned false true false none = refl
turned false false true none = refl
turned false false false none = refl

-- the bits that are left where others are taken out
pub without_bits : (bits within i : ℕ) → within < 2 ^ 64 → i < 64
    → test (bit_and bits (flip within)) i ≡ (test bits i && not (test within i))
without_bits bits within i small low =
    test-and bits (flip within) i ∙ ap (λ b. test bits i && b) (test-flip within i small low)

pub brackets_at : (s : Bool) (text : List ℕ) (quotes px opens closes mask : ℕ)
    → ((i : ℕ) → i < 64 → test quotes i ≡ (get_or text i 0 == 34))
    → ((i : ℕ) → i < 64 → test px i ≡ parity quotes (i + 1))
    → ((i : ℕ) → i < 64 → test opens i ≡ is_opening (get_or text i 0))
    → ((i : ℕ) → i < 64 → test closes i ≡ is_closing (get_or text i 0))
    → ((i : ℕ) → i < 64 → test mask i
    ≡ (test (bit_or opens closes) i && not (test (bit_xor px (spread s)) i)))
    → (i : ℕ) → i < 64
    → test mask i
    ≡ (not (is_within s text i) && (is_opening (get_or text i 0) || is_closing (get_or text i 0)))
brackets_at s text quotes px opens closes mask hq hp ho hc hm i h =
    let next : i + 1 ≡ suc i = omega arith in
    let within : test (bit_xor px (spread s)) i ≡ is_within s text (suc i) =
    test-xor px (spread s) i
    ∙ ap₂ xor (hp i h ∙ ap (parity quotes) next) (test-spread s i h)
    ∙ within_along s text quotes hq (suc i) h in
    hm i h
    ∙ ap₂ (λ a b. a && not b) (test-or opens closes i ∙ ap₂ (λ a b. a || b) (ho i h) (hc i h)) within
    ∙ turned (is_within s text i) (get_or text i 0 == 34) _ (no_bracket (get_or text i 0))

pub within_behind : (s : Bool) (text : List ℕ) (quotes px : ℕ)
    → ((i : ℕ) → i < 64 → test quotes i ≡ (get_or text i 0 == 34))
    → ((i : ℕ) → i < 64 → test px i ≡ parity quotes (i + 1)) → px < 2 ^ 64
    → (bit_xor px (spread s) / 2 ^ 63 == 1) ≡ is_within s text 64
within_behind s text quotes px hq hp small =
    let large : bit_xor px (spread s) < 2 ^ 64 = xor_lt 64 px (spread s) small (mod-lt _ (pow_pos 64)) in
    top_bit _ large ∙ test-xor px (spread s) 63
    ∙ ap₂ xor (hp 63 (omega arith)) (test-spread s 63 (omega arith))
    ∙ within_along s text quotes hq 64 (omega arith)

zero_bit : (i : ℕ) → i < 64 → test 0 i ≡ false
zero_bit i h = test-spread false i h

pub none_there : (text : List ℕ) (mask : ℕ) → mask ≡ 0
    → ((i : ℕ) → i < 64 → test mask i ≡ (get_or text i 0 == 92))
    → (i : ℕ) → i < 64 → (get_or text i 0 == 92) ≡ false
none_there text mask none hm i h = sym (hm i h) ∙ ap (λ m. test m i) none ∙ zero_bit i h

-- ---- bits that are passed over

skip_from : (m n i d br op : ℕ) → ((k : ℕ) → i ≤ k → k < i + m → test br k ≡ false)
    → walk_from br op (m + n) i d ≡ walk_from br op n (i + m) d
skip_from zero n i d br op none =
    ap₂ (λ (a b : ℕ). walk_from br op a b d) (omega arith) (omega arith)
skip_from (suc m) n i d br op none =
    let more : suc m + n ≡ suc (m + n) = omega arith in
    let next : suc i + m ≡ i + suc m = omega arith in
    ap (λ a. walk_from br op a i d) more
    ∙ ap (λ (b : Bool). cond b (cond (test op i) (walk_from br op (m + n) (suc i) (suc d))
    (cond (d == 1) (closed i) (walk_from br op (m + n) (suc i) (d - 1)))) (walk_from br op (m + n) (suc i) d))
    (none i (omega arith) (omega arith))
    ∙ skip_from m n (suc i) d br op (λ k low high. none k (omega arith) (omega arith))
    ∙ ap (λ a. walk_from br op n a d) next

-- where a walk stands: at a place behind which the bits left are those of the brackets
pub record IsAt (br op first left depth : ℕ) : Type 0 where
  pub at : ℕ
  pub within : at ≤ 64
  pub deep : (1 ≤ depth) × (depth ≤ first + at)
  pub before : (k : ℕ) → k < at → bit_at left k ≡ 0
  pub behind : (k : ℕ) → k < 64 → at ≤ k → bit_at left k ≡ bit_at br k
  pub same : walk_from br op (64 - at) at depth ≡ walk_from br op 64 0 first

pub at_start : (br op depth : ℕ) → 1 ≤ depth → IsAt br op depth br depth
at_start br op depth deep =
    record {
      at = 0;
      within = omega arith;
      deep = (deep, omega arith);
      before = λ k low. absurd (omega arith);
      behind = λ k low high. refl;
      same = refl;
    }

test_bit : (m k : ℕ) → bit_at m k ≡ 0 → test m k ≡ false
unfolding test
test_bit m k h = ap (λ b. b == 1) h

test_one : (m k : ℕ) → bit_at m k ≡ 1 → test m k ≡ true
unfolding test
test_one m k h = ap (λ b. b == 1) h

zero_is : (m k : ℕ) → m ≡ 0 → k < 64 → bit_at m k ≡ 0
zero_is m k none h = ap (λ n. bit_at n k) none ∙ bit_at-zero k

pub at_end : (br op first left depth : ℕ) → IsAt br op first left depth → left ≡ 0
    → goes_on depth ≡ walk_from br op 64 0 first
at_end br op first left depth is none =
    let all : 64 - is.at + 0 ≡ 64 - is.at = omega arith in
    let last : is.at + (64 - is.at) ≡ 64 = omega (arith, is.within) in
    sym (ap (λ n. walk_from br op n is.at depth) (sym all)
    ∙ skip_from (64 - is.at) 0 is.at depth br op
    (λ k low high. test_bit br k (sym (is.behind k (omega (arith, is.within)) low) ∙ zero_is left k none (omega (arith, is.within)))))
    ∙ is.same

module _ (br op first left depth at : ℕ) (is : IsAt br op first left depth) (low : at < 64)
    (set : bit_at left at ≡ 1) (below : (k : ℕ) → k < at → bit_at left k ≡ 0) where
  not_before : is.at ≤ at
  not_before = by (cases_lt at is.at)
    where
      by : (at < is.at) ⊎ (is.at ≤ at) → is.at ≤ at
      by (inl lt) = absurd (omega (arith, set, is.before at lt))
      by (inr le) = le

  here : walk_from br op (suc (63 - at)) at depth ≡ walk_from br op 64 0 first
  here =
      let n : 64 - is.at ≡ (at - is.at) + suc (63 - at) = omega (arith, not_before) in
      let to : is.at + (at - is.at) ≡ at = omega (arith, not_before) in
      sym (ap (λ k. walk_from br op k is.at depth) n
      ∙ skip_from (at - is.at) (suc (63 - at)) is.at depth br op
      (λ k from high. test_bit br k (sym (is.behind k (omega arith) from) ∙ below k (omega (arith, to))))
      ∙ ap (λ k. walk_from br op (suc (63 - at)) k depth) to) ∙ is.same

  there : test br at ≡ true
  there = test_one br at (sym (is.behind at low not_before) ∙ set)

  taken : (x y : Walk) → cond (test br at) x y ≡ x
  taken x y = ap (λ b. cond b x y) there

  branch : walk_from br op 64 0 first
      ≡ cond (test op at) (walk_from br op (63 - at) (suc at) (suc depth))
      (cond (depth == 1) (closed at) (walk_from br op (63 - at) (suc at) (depth - 1)))
  branch = sym here ∙ taken _ _

  next_at : (after more : ℕ) → (1 ≤ more) × (more ≤ suc depth)
      → ((k : ℕ) → k < 64 → (k ≡ at → ⊥) → bit_at after k ≡ bit_at left k)
      → bit_at after at ≡ 0
      → walk_from br op (63 - at) (suc at) more ≡ walk_from br op 64 0 first
      → IsAt br op first after more
  next_at after more deep kept cleared goes =
      let n : 64 - suc at ≡ 63 - at = omega arith in
      record {
        at = suc at;
        within = low;
        deep = (deep.0, omega (arith, deep.1, is.deep.1, not_before));
        before = λ k lt. by k lt (cases_lt k at);
        behind = λ k lt le. kept k lt (λ e. omega arith) ∙ is.behind k lt (omega (arith, not_before));
        same = ap (λ k. walk_from br op k (suc at) more) n ∙ goes;
      }
    where
      by : (k : ℕ) → k < suc at → (k < at) ⊎ (at ≤ k) → bit_at after k ≡ 0
      by k lt (inl less) = kept k (omega arith) (λ e. omega arith) ∙ below k less
      by k lt (inr more_) = ap (bit_at after) (omega arith) ∙ cleared

  pub opened : (after : ℕ) → ((k : ℕ) → k < 64 → (k ≡ at → ⊥) → bit_at after k ≡ bit_at left k)
      → bit_at after at ≡ 0 → true ≡ test op at → IsAt br op first after (depth + 1)
  opened after kept cleared opens =
      let one : suc depth ≡ depth + 1 = omega arith in
      next_at after (depth + 1) (omega arith, omega arith) kept cleared
      (ap (walk_from br op (63 - at) (suc at)) (sym one)
      ∙ sym (branch ∙ ap (λ b. cond b (walk_from br op (63 - at) (suc at) (suc depth))
      (cond (depth == 1) (closed at) (walk_from br op (63 - at) (suc at) (depth - 1)))) (sym opens)))

  pub closed_here : false ≡ test op at → (depth == 1) ≡ true → closed at ≡ walk_from br op 64 0 first
  closed_here closes one =
      sym (branch ∙ ap (λ b. cond b (walk_from br op (63 - at) (suc at) (suc depth))
      (cond (depth == 1) (closed at) (walk_from br op (63 - at) (suc at) (depth - 1)))) (sym closes)
      ∙ ap (λ b. cond b (closed at) (walk_from br op (63 - at) (suc at) (depth - 1))) one)

  pub closed_one : (after : ℕ) → ((k : ℕ) → k < 64 → (k ≡ at → ⊥) → bit_at after k ≡ bit_at left k)
      → bit_at after at ≡ 0 → false ≡ test op at → (depth == 1) ≡ false → 1 < depth
      → IsAt br op first after (depth - 1)
  closed_one after kept cleared closes more deep =
      next_at after (depth - 1) (omega arith, omega arith) kept cleared
      (sym (branch ∙ ap (λ b. cond b (walk_from br op (63 - at) (suc at) (suc depth))
      (cond (depth == 1) (closed at) (walk_from br op (63 - at) (suc at) (depth - 1)))) (sym closes)
      ∙ ap (λ b. cond b (closed at) (walk_from br op (63 - at) (suc at) (depth - 1))) more))

-- ---- a walk passes over what the bytes do

not_zero : (e : ℕ) → (suc e == 0) ≡ false
not_zero e = ne_eqb (suc e) 0 (λ is. omega (arith, is))

not_one : (e : ℕ) → (suc (suc e) == 1) ≡ false
not_one e = ne_eqb (suc (suc e)) 1 (λ is. omega (arith, is))

-- one byte, by what it is
byte_step : (w q o c m : Bool) (e : ℕ) (front after : List ℕ) → (q ≡ true → (o || c) ≡ false)
    → step (place_in w) (cond q Quote (cond false Backslash (cond o Opening (cond c Closing (cond m Comma Other)))))
    (suc e) front (λ p d. past p d after)
    ≡ cond (not w && (o || c))
    (cond o (past (place_in (xor w q)) (suc (suc e)) after)
    (cond (suc e == 1) (past outside 0 after) (past (place_in (xor w q)) (suc e - 1) after)))
    (past (place_in (xor w q)) (suc e) after)
byte_step true true o c m e front after none = refl
byte_step true false true c m e front after none = refl
byte_step true false false true m e front after none = refl
byte_step true false false false true e front after none = refl
byte_step true false false false false e front after none = refl
byte_step false true true c m e front after none = absurd (true≢false (none refl))
byte_step false true false true m e front after none = absurd (true≢false (none refl))
byte_step false true false false m e front after none = refl
byte_step false false true c m e front after none = refl
byte_step false false false true m zero front after none = refl
byte_step false false false true m (suc e) front after none =
    ap (λ b. cond b (Some front) (past outside (suc (suc e) - 1) after)) (not_zero (suc e))
    ∙ sym (ap (λ b. cond b (past outside 0 after) (past outside (suc (suc e) - 1) after)) (not_one e))
byte_step false false false false true e front after none =
    ap (λ b. cond b (Some front) (past outside (suc e) after)) (not_zero e)
byte_step false false false false false e front after none = refl

abbrev led : Bool → List ℕ → Walk → Option (List ℕ)
led s text (closed at) = past outside 0 (drop (suc at) text)
led s text (goes_on depth) = past (place_in (is_within s text 64)) depth (drop 64 text)

-- what a byte of a block is, as a step
abbrev step_at : Bool → List ℕ → ℕ → ℕ → Option (List ℕ)
step_at w text i d = past (place_in w) d (drop i text)

module _ (s : Bool) (text : List ℕ) (br op : ℕ) (long : 64 ≤ length text)
    (plain : (i : ℕ) → i < 64 → (get_or text i 0 == 92) ≡ false)
    (opens : (i : ℕ) → i < 64 → test op i ≡ is_opening (get_or text i 0))
    (brackets : (i : ℕ) → i < 64 → test br i
    ≡ (not (is_within s text i) && (is_opening (get_or text i 0) || is_closing (get_or text i 0)))) where
  one_byte : (i e : ℕ) → i < 64
      → step_at (is_within s text i) text i (suc e)
      ≡ cond (test br i)
      (cond (test op i) (step_at (is_within s text (suc i)) text (suc i) (suc (suc e)))
      (cond (suc e == 1) (past outside 0 (drop (suc i) text))
      (step_at (is_within s text (suc i)) text (suc i) (suc e - 1))))
      (step_at (is_within s text (suc i)) text (suc i) (suc e))
  unfolding role_of
  one_byte i e low =
      let x = get_or text i 0 in
      let after = drop (suc i) text in
      let w = is_within s text i in
      ap (past (place_in w) (suc e)) (drop-cons text i 0 (omega arith))
      ∙ ap (λ b. step (place_in w) (cond (x == 34) Quote (cond b Backslash (cond (is_opening x) Opening
      (cond (is_closing x) Closing (cond (x == 44) Comma Other))))) (suc e) (x ∷ after) (λ p d. past p d after))
      (plain i low)
      ∙ byte_step w (x == 34) (is_opening x) (is_closing x) (x == 44) e (x ∷ after) after (no_bracket x)
      ∙ ap₂ (λ (a b : Bool). cond a
      (cond b (step_at (is_within s text (suc i)) text (suc i) (suc (suc e)))
      (cond (suc e == 1) (past outside 0 after) (step_at (is_within s text (suc i)) text (suc i) (suc e - 1))))
      (step_at (is_within s text (suc i)) text (suc i) (suc e))) (sym (brackets i low)) (sym (opens i low))

  led_if : (b : Bool) (x y : Walk) → led s text (cond b x y) ≡ cond b (led s text x) (led s text y)
  led_if true x y = refl
  led_if false x y = refl

  pub walked : (n i d : ℕ) → i + n ≡ 64 → 1 ≤ d
      → step_at (is_within s text i) text i d ≡ led s text (walk_from br op n i d)
  walked zero i d all deep =
      let last : i ≡ 64 = omega arith in
      ap (λ k. step_at (is_within s text k) text k d) last
  walked (suc n) i zero all deep = absurd (omega arith)
  walked (suc n) i (suc e) all deep =
      let low : i < 64 = omega arith in
      let next : suc i + n ≡ 64 = omega arith in
      one_byte i e low
      ∙ by (test br i) (test op i) (suc e == 1) refl
      (walked n (suc i) (suc (suc e)) next (omega arith))
      (walked n (suc i) (suc e) next (omega arith))
      (λ more. walked n (suc i) (suc e - 1) next (deeper e more))
    where
      deeper : (k : ℕ) → (suc k == 1) ≡ false → 1 ≤ suc k - 1
      deeper zero more = absurd (true≢false more)
      deeper (suc k) more = omega arith

      by : (a b c : Bool) → (suc e == 1) ≡ c
          → step_at (is_within s text (suc i)) text (suc i) (suc (suc e))
          ≡ led s text (walk_from br op n (suc i) (suc (suc e)))
          → step_at (is_within s text (suc i)) text (suc i) (suc e)
          ≡ led s text (walk_from br op n (suc i) (suc e))
          → ((suc e == 1) ≡ false → step_at (is_within s text (suc i)) text (suc i) (suc e - 1)
          ≡ led s text (walk_from br op n (suc i) (suc e - 1)))
          → cond a (cond b (step_at (is_within s text (suc i)) text (suc i) (suc (suc e)))
          (cond c (past outside 0 (drop (suc i) text))
          (step_at (is_within s text (suc i)) text (suc i) (suc e - 1))))
          (step_at (is_within s text (suc i)) text (suc i) (suc e))
          ≡ led s text (cond a (cond b (walk_from br op n (suc i) (suc (suc e)))
          (cond c (closed i) (walk_from br op n (suc i) (suc e - 1)))) (walk_from br op n (suc i) (suc e)))
      by true true c is deeper same less = deeper
      by true false true is deeper same less = refl
      by true false false is deeper same less = less is
      by false b c is deeper same less = same

-- a walk over a block passes over its bytes
pub block_goes_on : (s : Bool) (text : List ℕ) (block : Block) (d e : ℕ) → IsBlock s text block → 1 ≤ d
    → goes_on e ≡ walk_from block.brackets block.opens 64 0 d
    → past (place_in block.inside) e (drop 64 text) ≡ past (place_in s) d text
block_goes_on s text block d e is deep to =
    ap (λ i. past (place_in i) e (drop 64 text)) is.behind
    ∙ ap (led s text) to
    ∙ sym (walked s text block.brackets block.opens is.long is.plain is.opens is.brackets 64 0 d (omega arith) deep)

pub block_closed : (s : Bool) (text : List ℕ) (block : Block) (d at : ℕ) → IsBlock s text block → 1 ≤ d
    → closed at ≡ walk_from block.brackets block.opens 64 0 d
    → past outside 0 (drop (at + 1) text) ≡ past (place_in s) d text
block_closed s text block d at is deep to =
    let next : at + 1 ≡ suc at = omega arith in
    ap (λ n. past outside 0 (drop n text)) next ∙ ap (led s text) to
    ∙ sym (walked s text block.brackets block.opens is.long is.plain is.opens is.brackets 64 0 d (omega arith) deep)

-- a vector has the first bytes of the text
pub front_same : (p : ℕ → Bool) (text : List ℕ) (mask : ℕ)
    → ((i : ℕ) → i < 64 → test mask i ≡ p (get_or (take 64 text) i 0))
    → (i : ℕ) → i < 64 → test mask i ≡ p (get_or text i 0)
front_same p text mask is i low = is i low ∙ ap p (get_or-take 64 text i 0 low)
