-- Bytes that are moved in two pieces.
use Rattle.std.proofs.Common.{◌≡◌, ℕ, ◌+◌, ◌-◌, ◌≤◌, List, ◌++◌, length, take, drop, sym, subst, ap, ◌∙◌, arith, length-drop}
use Rattle.std.proofs.Math.Seq.{take-add}
use Rattle.std.proofs.lemmas.List.{take-append-drop, drop-drop, take_all}
use Rattle.std.proofs.KnownBytes.{Appends-trans}
use Rattle.std.specs.declared.option.Option.{Option}
use Rattle.std.specs.Io.KnownBytes.{Appends}
use Rattle.ax_base.specs.Appends.{AppendsPrefix}

-- the slice from `at` on is all that follows `at`
pub whole_slice : (at : ℕ) (bytes : List ℕ)
    → take (length bytes - at) (drop at bytes) ≡ drop at bytes
whole_slice at bytes =
    take_all (length bytes - at) (drop at bytes) (omega (arith, length-drop at bytes))

-- what follows `at` is a prefix of it and what follows that
pub split_slice : (at count : ℕ) (bytes : List ℕ)
    → drop at bytes ≡ take count (drop at bytes) ++ drop (at + count) bytes
split_slice at count bytes =
    sym (take-append-drop count (drop at bytes))
    ∙ ap (λ rest. take count (drop at bytes) ++ rest) (drop-drop count at bytes)

-- the prefix up to `at`, and then `count` more of the slice from `at` on
pub Appends-further : (a b c : Option (List ℕ)) (at count : ℕ) (bytes : List ℕ)
    → Appends a b (take at bytes)
    → Appends b c (take count (take (length bytes - at) (drop at bytes)))
    → Appends a c (take (at + count) bytes)
Appends-further a b c at count bytes first second =
    let next =
    subst (λ (more : List ℕ). Appends b c (take count more)) (whole_slice at bytes) second in
    subst (λ (prefix : List ℕ). Appends a c prefix) (sym (take-add at count bytes))
    (Appends-trans a b c _ _ first next)

-- the prefix up to `at`, and then a prefix of the slice from `at` on
pub AppendsPrefix-further : (a b c : Option (List ℕ)) (at : ℕ) (bytes : List ℕ) → at ≤ length bytes
    → Appends a b (take at bytes)
    → AppendsPrefix b c (take (length bytes - at) (drop at bytes))
    → AppendsPrefix a c bytes
AppendsPrefix-further a b c at bytes within first second =
    let more : second.0 ≤ length (drop at bytes) =
    subst (λ (more : List ℕ). second.0 ≤ length more) (whole_slice at bytes) second.1 in (
      at + second.0,
      omega (arith, length-drop at bytes),
      Appends-further a b c at second.0 bytes first second.2,
    )

-- `count` more of the slice from `at` on stay within the bytes
pub within_further : (at count : ℕ) (bytes : List ℕ) → at ≤ length bytes
    → count ≤ length (take (length bytes - at) (drop at bytes)) → at + count ≤ length bytes
within_further at count bytes within more =
    let fewer : count ≤ length (drop at bytes) =
    subst (λ (list : List ℕ). count ≤ length list) (whole_slice at bytes) more in
    omega (arith, length-drop at bytes)

-- a prefix of the slice from `at` on, and what follows it, are all that remained at `at`
pub remaining_read : (at count : ℕ) (bytes slice prefix remaining : List ℕ)
    → drop at bytes ≡ remaining → slice ≡ bytes
    → prefix ≡ take count (take (length slice - at) (drop at slice))
    → remaining ≡ prefix ++ drop (at + count) bytes
remaining_read at count bytes slice prefix remaining is same read =
    let whole : take count (take (length slice - at) (drop at slice)) ≡ take count (drop at bytes) =
    ap (take count) (whole_slice at slice ∙ ap (drop at) same) in
    sym is
    ∙ split_slice at count bytes
    ∙ ap (λ taken. taken ++ drop (at + count) bytes) (sym (read ∙ whole))
