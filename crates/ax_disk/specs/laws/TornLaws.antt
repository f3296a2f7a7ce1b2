-- What a crash may leave of a list after a write or a cut, in terms of what it might have left
-- before: up to the place of the write it is a list from before, and with the old bytes put back
-- it is one.
use Rattle.std.proofs.Common.{◌≡◌, ◌⊎◌, inl, inr, ⊎_elim, ℕ, ◌+◌, ◌-◌, ◌<◌, ◌≤◌, List, ◌∷◌, ◌++◌, length, get_or, take, drop, refl, sym, ◌∙◌, ap}
use Rattle.std.proofs.Common.{subst, arith, append_assoc, length-append}
use Rattle.std.proofs.lemmas.List.{ext_get_or, length-take, length-take-le, length-drop, get_or-take, get_or-drop, get_or_append_left}
use Rattle.std.proofs.lemmas.List.{get_or-append_right, take_at, take_all, take-take, drop_at, drop_more, take-append-drop}
use Rattle.ax_disk.specs.model.Pending.{IsOutside, IsUntouched, Pending, MayHold, settled, written, shortened}
use Rattle.ax_disk.specs.model.Calls.{overwritten}
use Rattle.ax_disk.specs.laws.PendingLaws.{length-overwritten, overwritten_inside, overwritten_outside, kept_back}

-- a list that may be left, cut to the least length, may be left
pub shortest_holds : (pending : Pending) (bytes : List ℕ) → MayHold pending bytes
    → MayHold pending (take pending.least bytes)
shortest_holds pending bytes held =
    let long = length-take pending.least bytes in
    record {
      no_shorter = omega (arith, long, held.no_shorter);
      no_longer = omega (arith, long, held.no_shorter, held.no_longer);
      kept = λ i stable below untouched. get_or-take pending.least bytes i 0 (omega (arith, long))
          ∙ held.kept i stable (omega (arith, long)) untouched;
      fit = λ i below. subst (λ (b : ℕ). b < 256)
          (sym (get_or-take pending.least bytes i 0 (omega (arith, long))))
          (held.fit i (omega (arith, long)));
    }

-- A byte at a place that stands in a list there, or in one that was written, outside the range.
abbrev pub IsFromEither : ℕ → ℕ → List ℕ → List ℕ → List ℕ → ℕ → Type 0
IsFromEither at size list bytes mixed i =
    ((i < length list) × (get_or mixed i 0 ≡ get_or list i 0))
    ⊎ ((i < length bytes) × IsOutside i (record { at = at; size = size }) ×
    (get_or mixed i 0 ≡ get_or bytes i 0))

-- A list of such bytes, of an allowed length, is a list from before the write.
pub mixed_holds : (pending : Pending) (at size : ℕ) (list bytes mixed : List ℕ)
    → MayHold pending list → MayHold (written at size pending) bytes
    → pending.least ≤ length mixed → length mixed ≤ pending.greatest
    → ((i : ℕ) → i < length mixed → IsFromEither at size list bytes mixed i)
    → MayHold pending mixed
mixed_holds pending at size list bytes mixed before after least greatest from = record {
  no_shorter = least;
  no_longer = greatest;
  kept = λ i stable below untouched.
      ⊎_elim
      (λ (old : (i < length list) × (get_or mixed i 0 ≡ get_or list i 0)). old.1
      ∙ before.kept i stable old.0 untouched)
      (λ (new : (i < length bytes) × IsOutside i (record { at = at; size = size }) ×
      (get_or mixed i 0 ≡ get_or bytes i 0)).
      new.2 ∙ after.kept i stable new.0 (new.1, untouched))
      (from i below);
  fit = λ i below.
      ⊎_elim
      (λ (old : (i < length list) × (get_or mixed i 0 ≡ get_or list i 0)). subst
      (λ (b : ℕ). b < 256) (sym old.1) (before.fit i old.0))
      (λ (new : (i < length bytes) × IsOutside i (record { at = at; size = size }) ×
      (get_or mixed i 0 ≡ get_or bytes i 0)).
      subst (λ (b : ℕ). b < 256) (sym new.2) (after.fit i new.0))
      (from i below);
}

below_or_not : (a b : ℕ) → (a < b) ⊎ (b ≤ a)
below_or_not a b = grind arith

-- with what a read gave put back from the place of the write on it is a list from before
pub back_put_back : (pending : Pending) (at size : ℕ) (list bytes : List ℕ) → MayHold pending list
    → MayHold (written at size pending) bytes
    → at ≤ length list → at ≤ length bytes → MayHold pending (take at bytes ++ drop at list)
back_put_back pending at size list bytes before after within reached =
    let prefix : length (take at bytes) ≡ at = length-take-le at bytes reached in
    let long : length (take at bytes ++ drop at list) ≡ length list = omega
    (arith, length-append (take at bytes) (drop at list), prefix, length-drop at list) in
    mixed_holds pending at size list bytes (take at bytes ++ drop at list) before after
    (omega (arith, long, before.no_shorter))
    (omega (arith, long, before.no_longer))
    (λ i below.
    ⊎_elim
    (λ near. inr (
      omega (arith, near),
      inl near,
      get_or_append_left (take at bytes)
          (drop at list) 0 i (omega (arith, prefix, near)) ∙ get_or-take at bytes i 0 near,
    ))
    (λ far.
    let back : at + (i - at) ≡ i = omega (arith, far) in
    inl (
      omega (arith, long, below),
      get_or-append_right (take at bytes)
          (drop at list) at i 0 prefix far ∙ get_or-drop at list (i - at) 0
          ∙ ap (λ (k : ℕ). get_or list k 0) back,
    ))
    (below_or_not i at))

-- with the old bytes of a range put back that has the written one in it, it is a list from before
pub range_put_back : (pending : Pending) (at size from n : ℕ) (list bytes : List ℕ)
    → MayHold pending list → MayHold (written at size pending) bytes
    → from ≤ at → at + size ≤ from + n → from + n ≤ length list → from + n ≤ length bytes
    → MayHold pending (overwritten bytes from (take n (drop from list)))
range_put_back pending at size from n list bytes before after starts ends within reached =
    let piece = take n (drop from list) in
    let some : length piece ≡ n = length-take-le n (drop from list)
    (omega (arith, length-drop from list)) in
    let long : length (overwritten bytes from piece) ≡ length bytes = omega
    (arith, length-overwritten bytes from piece (omega arith), some) in
    mixed_holds pending at size list bytes (overwritten bytes from piece) before after
    (omega (arith, long, after.no_shorter))
    (omega (arith, long, after.no_longer, before.no_longer))
    (λ i below.
    ⊎_elim
    (λ early. inr (
      omega (arith, long, below),
      inl (omega arith),
      overwritten_outside bytes from piece n i (omega arith) (omega (arith, some)) (inl early),
    ))
    (λ not_early.
    ⊎_elim
    (λ inside.
    let place : from + (i - from) ≡ i = omega (arith, not_early) in
    inl (
      omega arith,
      overwritten_inside bytes from piece i (omega arith) not_early (omega (arith, some))
          ∙ get_or-take n (drop from list) (i - from) 0 (omega arith)
          ∙ get_or-drop from list (i - from) 0
          ∙ ap (λ (k : ℕ). get_or list k 0) place,
    ))
    (λ late. inr (
      omega (arith, long, below),
      inr (omega arith),
      overwritten_outside bytes from piece n i (omega arith) (omega (arith, some)) (inr late),
    ))
    (below_or_not i (from + n)))
    (below_or_not i from))

-- with the old prefix put back that has the written range in it, it is a list from before
pub prefix_put_back : (pending : Pending) (at size n : ℕ) (list bytes : List ℕ)
    → MayHold pending list → MayHold (written at size pending) bytes
    → at + size ≤ n → n ≤ length list → n ≤ length bytes
    → MayHold pending (take n list ++ drop n bytes)
prefix_put_back pending at size n list bytes before after ends within reached =
    let some : 0 + length (take n list) ≡ n = omega (arith, length-take-le n list within) in
    subst (λ (k : ℕ). MayHold pending (take n list ++ drop k bytes)) some
    (range_put_back pending at size 0 n list bytes before after (omega arith) (omega arith)
    (omega arith) (omega arith))

-- a list that a crash might have left before the write, and that is the same up to its place
pub record PrefixFrom (pending : Pending) (at : ℕ) (bytes : List ℕ) : Type 0 where
  pub before : List ℕ
  pub held : MayHold pending before
  pub prefix : take at bytes ≡ take at before

-- What a crash leaves after a write is, up to the place of the write, what it might have left
-- before.
pub prefix_from_before : (pending : Pending) (at size : ℕ) (list bytes : List ℕ)
    → MayHold pending list → at ≤ length list → MayHold (written at size pending) bytes
    → PrefixFrom pending at bytes
prefix_from_before pending at size list bytes before within after =
    ⊎_elim
    (λ short. record {
      before = bytes;
      held = record {
        no_shorter = after.no_shorter;
        no_longer = omega (arith, before.no_longer);
        kept = λ i stable below untouched. after.kept i stable below (inl (omega arith), untouched);
        fit = after.fit;
      };
      prefix = refl;
    })
    (λ reached. record {
      before = take at bytes ++ drop at list;
      held = back_put_back pending at size list bytes before after within reached;
      prefix = sym (take_at (take at bytes) (drop at list) at (length-take-le at bytes reached));
    })
    (below_or_not (length bytes) at)

-- A prefix that all have stays, where the write begins behind it.
pub list_prefix_stays : (pending : Pending) (at size : ℕ) (list prefix : List ℕ)
    → MayHold pending list → at ≤ length list → length prefix ≤ at
    → ((bytes : List ℕ) → MayHold pending bytes → take (length prefix) bytes ≡ prefix)
    → (bytes : List ℕ) → MayHold (written at size pending) bytes
    → take (length prefix) bytes ≡ prefix
list_prefix_stays pending at size list prefix before within behind all bytes after =
    let from = prefix_from_before pending at size list bytes before within after in
    let n = length prefix in
    sym (take-take n at bytes behind) ∙ ap (take n) from.prefix ∙ take-take n at from.before behind
    ∙ all from.before from.held

-- A list that all have: after a write within it each has the same length, and the same bytes
-- outside the range.
pub record OnlyRange (at size : ℕ) (list bytes : List ℕ) : Type 0 where
  pub same_length : length bytes ≡ length list
  pub outside : (i : ℕ) → IsOutside i (record { at = at; size = size })
      → get_or bytes i 0 ≡ get_or list i 0

pub list_only_stays : (pending : Pending) (at size : ℕ) (list : List ℕ) → MayHold pending list
    → at + size ≤ length list
    → ((bytes : List ℕ) → MayHold pending bytes → bytes ≡ list)
    → (bytes : List ℕ) → MayHold (written at size pending) bytes → OnlyRange at size list bytes
list_only_stays pending at size list before within all bytes after =
    let least : length (take pending.least list) ≡ length list = ap length
    (all (take pending.least list) (shortest_holds pending list before)) in
    let long : length list ≤ length bytes = omega
    (arith, least, length-take pending.least list, after.no_shorter) in
    let piece = take size (drop at list) in
    let some : length piece ≡ size = length-take-le size (drop at list)
    (omega (arith, length-drop at list)) in
    let same : overwritten bytes at piece ≡ list =
    all (overwritten bytes at piece) (range_put_back pending at size at size list bytes before after
    (omega arith) (omega arith) within (omega arith)) in
    record {
      same_length = omega (
        arith,
        ap length same,
        length-overwritten bytes at piece (omega arith),
        some,
      );
      outside = λ i out. sym (overwritten_outside bytes at piece size i (omega arith)
          (omega (arith, some)) out) ∙ ap (λ (l : List ℕ). get_or l i 0) same;
    }

-- a prefix that was not written is left as it was, as far as the list goes
pub kept_up_to : (pending : Pending) (bytes : List ℕ) (k : ℕ) → MayHold pending bytes
    → k ≤ length bytes → k ≤ length pending.stable
    → ((i : ℕ) → i < k → IsUntouched i pending.ranges) → take k bytes ≡ take k pending.stable
kept_up_to pending bytes k held reached stable untouched =
    let long = length-take k bytes in
    ext_get_or 0 (take k bytes) (take k pending.stable)
    (omega (arith, long, length-take k pending.stable))
    (λ i below.
    let near : i < k = omega (arith, long) in
    get_or-take k bytes i 0 near ∙ held.kept i (omega arith) (omega (arith, near))
    (untouched i near) ∙ sym (get_or-take k pending.stable i 0 near))

-- after a write of one byte over a settled list it is the list with some byte there
pub record OneByte (at : ℕ) (list bytes : List ℕ) : Type 0 where
  pub byte : ℕ
  pub is : bytes ≡ take at list ++ byte ∷ drop (at + 1) list

pub one_byte_written : (list : List ℕ) (at : ℕ) (bytes : List ℕ) → at < length list
    → MayHold (written at 1 (settled list)) bytes → OneByte at list bytes
one_byte_written list at bytes within held =
    let long : length bytes ≡ length list = omega (arith, held.no_shorter, held.no_longer) in
    let pending = written at 1 (settled list) in
    let prefix : take at bytes ≡ take at list = kept_up_to pending bytes at held (omega arith)
    (omega arith) (λ i below. (inl below, tt)) in
    let back : drop (at + 1) bytes ≡ drop (at + 1) list = kept_back pending bytes (at + 1) held refl
    (omega arith) (λ i past. (inr past, tt)) in
    record {
      byte = get_or bytes at 0;
      is = sym (take-append-drop at bytes) ∙ ap (λ (l : List ℕ). l ++ drop at bytes) prefix
          ∙ ap (λ (l : List ℕ). take at list ++ l)
          (drop_more bytes at 0 (omega (arith, long))
          ∙ ap (λ (l : List ℕ). get_or bytes at 0 ∷ l) back);
    }

-- a list that a crash might have left before the cut, and of which this one is a prefix
pub record CutFrom (pending : Pending) (bytes : List ℕ) : Type 0 where
  pub before : List ℕ
  pub held : MayHold pending before
  pub prefix : bytes ≡ take (length bytes) before

behind : (bytes list : List ℕ) (i : ℕ) → length bytes ≤ i
    → get_or (bytes ++ drop (length bytes) list) i 0 ≡ get_or list i 0
behind bytes list i far =
    let back : length bytes + (i - length bytes) ≡ i = omega (arith, far) in
    get_or-append_right bytes (drop (length bytes) list) (length bytes) i 0 refl far
    ∙ get_or-drop (length bytes) list (i - length bytes) 0
    ∙ ap (λ (k : ℕ). get_or list k 0) back

-- What a crash leaves after a cut is a prefix of what it might have left before.
pub prefix_of_before : (pending : Pending) (len : ℕ) (list bytes : List ℕ) → MayHold pending list
    → MayHold (shortened len pending) bytes → CutFrom pending bytes
prefix_of_before pending len list bytes before after =
    ⊎_elim
    (λ short.
    let mixed = bytes ++ drop (length bytes) list in
    let long : length mixed ≡ length list = omega (
      arith,
      length-append bytes (drop (length bytes) list),
      length-drop (length bytes) list,
      before.no_shorter,
    ) in
    record {
      before = mixed;
      held = record {
        no_shorter = omega (arith, long, before.no_shorter);
        no_longer = omega (arith, long, before.no_longer);
        kept = λ i stable below untouched.
            ⊎_elim
            (λ near. get_or_append_left bytes (drop (length bytes) list) 0 i near
            ∙ after.kept i stable near untouched)
            (λ far. behind bytes list i far ∙ before.kept i stable (omega (arith, long)) untouched)
            (below_or_not i (length bytes));
        fit = λ i below.
            ⊎_elim
            (λ near. subst (λ (b : ℕ). b < 256)
            (sym (get_or_append_left bytes (drop (length bytes) list) 0 i near))
            (after.fit i near))
            (λ far. subst (λ (b : ℕ). b < 256) (sym (behind bytes list i far))
            (before.fit i (omega (arith, long))))
            (below_or_not i (length bytes));
      };
      prefix = sym (take_at bytes (drop (length bytes) list) (length bytes) refl);
    })
    (λ enough. record {
      before = bytes;
      held = record {
        no_shorter = enough;
        no_longer = after.no_longer;
        kept = after.kept;
        fit = after.fit;
      };
      prefix = sym (take_all (length bytes) bytes (omega arith));
    })
    (below_or_not (length bytes) pending.least)

-- a cut of a settled list leaves a prefix of it
pub cut_leaves_a_prefix : (list : List ℕ) (len : ℕ) (bytes : List ℕ)
    → MayHold (shortened len (settled list)) bytes → bytes ≡ take (length bytes) list
cut_leaves_a_prefix list len bytes held =
    sym (take_all (length bytes) bytes (omega arith))
    ∙ kept_up_to (shortened len (settled list)) bytes (length bytes) held
    (omega arith) held.no_longer (λ i below. tt)

-- a write of as many bytes as a piece has puts them in its place
pub overwritten_piece : (prefix old back new : List ℕ) → length new ≡ length old
    → overwritten (prefix ++ old ++ back) (length prefix) new ≡ prefix ++ new ++ back
overwritten_piece prefix old back new same =
    let n = length prefix in
    let before : take n (prefix ++ old ++ back) ≡ prefix = ap (take n)
    (append_assoc prefix old back) ∙ take_at prefix (old ++ back) n refl in
    let after : drop (n + length new) (prefix ++ old ++ back) ≡ back = drop_at (prefix ++ old) back
    (n + length new) (omega (arith, length-append prefix old, same)) in
    ap (λ (l : List ℕ). l ++ new ++ drop (n + length new) (prefix ++ old ++ back)) before
    ∙ ap (λ (l : List ℕ). prefix ++ new ++ l) after
