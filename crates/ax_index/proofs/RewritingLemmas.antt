-- A page written anew: its own base first, and then one new page after another.
use Rattle.std.proofs.Common.{◌≡◌, ◌≢◌, ℕ, ◌+◌, ◌<◌, ◌≤◌, List, [], ◌∷◌, ◌++◌, length, arith, refl}
use Rattle.std.proofs.Common.{sym, ap, ◌∙◌, subst, Bool, true, false, cond, append_assoc}
use Rattle.std.proofs.Common.{append-nil, ⊎_elim, ◌⊎◌, inl, inr}
use Rattle.std.specs.declared.cmp.Ordering.TheVariants.{Less}
use Rattle.std.proofs.lemmas.Bool.{lt-ltb, le-ltb, cases_lt}
use Rattle.std.proofs.lemmas.List.{get_or_append_left, get_or-set_same}
use Rattle.ax_frame.specs.Part.{PartValue}
use Rattle.ax_pair.specs.declared.pair.Pair.{Pair}
use Rattle.ax_pair.specs.Order.{pair_cmp, Rise}
use Rattle.ax_leaf.specs.Pairs.{postings_of}
use Rattle.ax_leaf.specs.Payload.{IsLeaf}
use Rattle.ax_leaf.proofs.Lows.{leaf_low}
use Rattle.ax_delta.specs.Said.{has}
use Rattle.ax_delta.proofs.SamePair.{true_or_false}
use Rattle.ax_pages.specs.Contents.{TermPage, no_term_page, term_page, low_of}
use Rattle.ax_pages.specs.AfterPart.{after_base, with_base, most_term_pages}
use Rattle.ax_pages.specs.TermPages.{AreApart, IsPageOf, low_pair}
use Rattle.ax_pages.proofs.TermLists.{at_behind, put_within, set_other}
use Rattle.ax_pairs.specs.Index.{AllBelong, IsIndex}
use Rattle.ax_pairs.specs.PairSets.{PairSet}
use Rattle.ax_pairs.specs.TermParts.{bases_below}
use Rattle.ax_pairs.proofs.PairOrder.{NotAfter, same_not_after, not_both}
use Rattle.ax_pairs.proofs.Belonging.{HaveSameLows, same_lows_back, belongs_still, one_page, longer, low_before, low_behind, one_more, goes, came}
use Rattle.ax_pairs.proofs.Changed.{set_lows}
use Rattle.ax_pairs.proofs.Leading.{lead_then, lead_base, lead_new, base_part}
use Rattle.ax_pairs.proofs.PageLists.{of_payload}
use Rattle.ax_pairs.proofs.Rewritten.{base_low, rewritten}
use Rattle.ax_pairs.proofs.Sets.{same_set}
use Rattle.ax_pairs.proofs.SplitOff.{with_list, split_off}
use Rattle.ax_index.specs.Bare.{has_deltas}
use Rattle.ax_index.specs.Carried.{HasLowPair, HasSome, bases_put}
use Rattle.ax_index.specs.Rewriting.{without, Replaces, Rewrites}
use Rattle.ax_index.proofs.CarriedLemmas.{bases_put_more, later_bases, no_base_of, one_base_put, same_bases}
use Rattle.ax_index.proofs.Lists.{deltas_more, bases_more, has_more, in_first, in_second}
use Rattle.ax_index.proofs.Lists.{not_in_first, first_of_list, rises_back, one_before, not_in_both}
use Rattle.ax_index.proofs.Lists.{not_in_other, first_least}

-- ---- the base of the page itself

module _ (page : ℕ) (first rest : List Pair) (now : List TermPage) (payload : List ℕ) (there : page < length now) (rise : Rise (first ++ rest))
    (spelled : IsLeaf payload (low_pair page now) (postings_of first)) (belong : AllBelong (first ++ rest) page now)
    (above : (p : Pair) → has p rest ≡ true → pair_cmp (low_pair page now) p ≡ Less) (some : 0 < length (first ++ rest) → 0 < length first) where
  abbrev after_first : List TermPage
  after_first = after_base page payload now

  lows_first : HaveSameLows now after_first
  lows_first =
      subst (HaveSameLows now) (sym (put_within page (with_base payload) now there))
      (set_lows page (with_base payload) now there (base_low payload (low_pair page now) first spelled))

  -- of the pairs of the page, the base has those that are not in the rest
  here_first : (set : PairSet) → ((p : Pair) → IsPageOf p page now → has p (first ++ rest) ≡ set p) → (p : Pair) → IsPageOf p page now
      → has p first ≡ without rest set p
  here_first set here p of =
      ⊎_elim
      (λ (in_rest : has p rest ≡ true).
      not_in_other p first rest rise in_rest ∙ sym (ap (λ (b : Bool). cond b false (set p)) in_rest))
      (λ (not_in : has p rest ≡ false).
      last_has (has p first) (ap (cond (has p first) true) not_in)
      ∙ sym (has_more p first rest) ∙ here p of ∙ sym (ap (λ (b : Bool). cond b false (set p)) not_in))
      (true_or_false (has p rest))
    where
      last_has : (b : Bool) → cond b true (has p rest) ≡ cond b true false → b ≡ cond b true (has p rest)
      last_has true e = refl
      last_has false e = sym e

  others_first : (set after : PairSet) → AreApart now → ((p : Pair) (m : ℕ) → m ≢ page → IsPageOf p m now → set p ≡ after p)
      → (p : Pair) (m : ℕ) → m ≢ page → IsPageOf p m now → set p ≡ without rest after p
  others_first set after are others p m apart of =
      others p m apart of
      ∙ ⊎_elim
      (λ (in_rest : has p rest ≡ true). absurd (apart (one_page now p m page are of (belong p (in_second p first rest in_rest)))))
      (λ (not_in : has p rest ≡ false). sym (ap (λ (b : Bool). cond b false (after p)) not_in))
      (true_or_false (has p rest))

  pub first_base : Rewrites page (first ++ rest) rest now (base_part page payload ∷ []) after_first
  first_base = record {
    lead = lead_base now page payload there (leaf_low payload (low_pair page now) (postings_of first) spelled);
    longer = omega (arith, lows_first.many);
    lows = λ n h. lows_first.low n;
    same = λ n h apart.
        ap (term_page n) (put_within page (with_base payload) now there) ∙ set_other page (with_base payload) now n apart;
    no_deltas = λ n. refl;
    there = there;
    bare = ap has_deltas
        (ap (term_page page) (put_within page (with_base payload) now there) ∙ get_or-set_same now page (with_base payload) no_term_page there);
    new_bare = λ n from below. absurd (omega (arith, lows_first.many));
    one_base = λ count below within. ap (λ (b : Bool). cond b 1 0 + 0) (lt-ltb page count below);
    own = ap (λ (ps : List (List ℕ)). length ps) (one_base_put page payload);
    elsewhere = λ n h apart. no_base_of page n payload apart;
    new_once = λ n from below. absurd (omega (arith, lows_first.many));
    none_beyond = λ n past. no_base_of page n payload (λ e. omega (arith, e, past, lows_first.many, there));
    new_with = λ n from below. absurd (omega (arith, lows_first.many));
    filled = λ h.
        subst HasSome
        (sym (ap (term_page page) (put_within page (with_base payload) now there) ∙ get_or-set_same now page (with_base payload) no_term_page there))
        (first, of_payload payload (low_pair page now) first spelled, some h);
    fresh = λ n from below. absurd (omega (arith, lows_first.many));
    front = first;
    whole = refl;
    last = page;
    inside = λ p of. belongs_still after_first now p page (same_lows_back now after_first lows_first) of;
    belong = λ p h. belongs_still now after_first p page lows_first (belong p (in_second p first rest h));
    above = λ p h. subst (λ (l : Pair). pair_cmp l p ≡ Less) (sym (lows_first.low page)) (above p h);
    holds = λ set after is replaces.
        rewritten now set (without rest after) page payload first is there spelled (λ p h. belong p (in_first p first rest h))
        (here_first after replaces.here) (others_first set after is.apart replaces.others);
  }

-- ---- the first base of a new page

module _ (page : ℕ) (list : List Pair) (q : Pair) (piece rest : List Pair) (now : List TermPage) (parts : List PartValue) (old : List TermPage)
    (payload : List ℕ)
    (is : Rewrites page list ((q ∷ piece) ++ rest) now parts old) (rise : Rise list) (all : AllBelong list page now)
    (few : length old < most_term_pages) (spelled : IsLeaf payload q (postings_of (q ∷ piece))) where
  abbrev new_page : TermPage
  new_page = with_base payload

  low_is : low_of new_page ≡ q
  low_is = base_low payload q (q ∷ piece) spelled

  abbrev left : List Pair
  left = (q ∷ piece) ++ rest

  rises_left : Rise left
  rises_left = rises_back is.front left (subst Rise is.whole rise)

  rises_whole : Rise (is.front ++ left)
  rises_whole = subst Rise is.whole rise

  has_q : has q left ≡ true
  has_q = first_of_list q (piece ++ rest)

  of_last : IsPageOf q is.last old
  of_last = is.belong q has_q

  of_low : IsPageOf (low_of new_page) is.last old
  of_low = subst (λ (l : Pair). IsPageOf l is.last old) (sym low_is) of_last

  -- no page has the low pair
  not_low : (n : ℕ) → n < length old → low_pair n old ≡ q → ⊥
  not_low n h e =
      let up : NotAfter (low_pair n old) (low_pair is.last old) = of_last.greatest n h (same_not_after (low_pair n old) q e) in
      not_both (low_pair is.last old) q (is.above q has_q) (subst (λ (l : Pair). NotAfter l (low_pair is.last old)) e up)

  least : (p : Pair) → has p left ≡ true → NotAfter q p
  least p h = first_least q p (piece ++ rest) rises_left h

  -- a pair of the page that is not left has none from the low pair on
  none_beyond : (set with_it : PairSet) → Replaces page list now set with_it → (p : Pair) → IsPageOf p is.last old → NotAfter q p
      → without left with_it p ≡ false
  none_beyond set with_it replaces p of not_after =
      ⊎_elim
      (λ (in_left : has p left ≡ true). ap (λ (b : Bool). cond b false (with_it p)) in_left)
      (λ (not_in : has p left ≡ false).
      ap (λ (b : Bool). cond b false (with_it p)) not_in
      ∙ sym (replaces.here p (is.inside p of)) ∙ ap (has p) is.whole
      ∙ not_in_first p is.front left
      (⊎_elim
      (λ (before : has p is.front ≡ true). absurd (not_both p q (one_before p q is.front left rises_whole before has_q) not_after))
      (λ (none : has p is.front ≡ false). none)
      (true_or_false (has p is.front)))
      ∙ not_in)
      (true_or_false (has p left))

  -- with the pairs of the piece the set is without the rest alone
  with_piece : (set with_it : PairSet) → Replaces page list now set with_it → (p : Pair)
      → with_list (q ∷ piece) (without left with_it) p ≡ without rest with_it p
  with_piece set with_it replaces p =
      ⊎_elim
      (λ (in_piece : has p (q ∷ piece) ≡ true).
      let in_left : has p left ≡ true = in_first p (q ∷ piece) rest in_piece in
      let in_list : has p list ≡ true = ap (has p) is.whole ∙ in_second p is.front left in_left in
      ap (λ (b : Bool). cond b true (without left with_it p)) in_piece
      ∙ sym in_list ∙ replaces.here p (all p in_list)
      ∙ sym (ap (λ (b : Bool). cond b false (with_it p)) (not_in_both p (q ∷ piece) rest rises_left in_piece)))
      (λ (not_in : has p (q ∷ piece) ≡ false).
      ap (λ (b : Bool). cond b true (without left with_it p)) not_in
      ∙ ap (λ (b : Bool). cond b false (with_it p)) (not_in_first p (q ∷ piece) rest not_in))
      (true_or_false (has p (q ∷ piece)))

  last_or_before : (m : ℕ) → m < length (longer old new_page) → (m ≡ length old) ⊎ (m < length old)
  last_or_before m h =
      ⊎_elim (λ (b : m < length old). inr b) (λ (b : length old ≤ m). inl (omega (arith, one_more old new_page))) (cases_lt m (length old))

  from_new : (p : Pair) → IsPageOf p (length old) (longer old new_page) → IsPageOf p is.last old
  from_new p of = came old new_page is.last of_low p of

  pub next_base : Rewrites page list rest now (parts ++ base_part (length old) payload ∷ []) (longer old new_page)
  next_base = record {
    lead = lead_then parts (base_part (length old) payload ∷ []) now old (longer old new_page) is.lead
        (lead_new old (length old) payload q refl few (leaf_low payload q (postings_of (q ∷ piece)) spelled) not_low);
    longer = omega (arith, is.longer, one_more old new_page);
    lows = λ n h. low_before old new_page n (omega (arith, is.longer)) ∙ is.lows n h;
    same = λ n h apart. get_or_append_left old (new_page ∷ []) no_term_page n (omega (arith, is.longer)) ∙ is.same n h apart;
    no_deltas = λ n. omega (arith, deltas_more n parts (base_part (length old) payload ∷ []), is.no_deltas n);
    there = is.there;
    bare = ap has_deltas (get_or_append_left old (new_page ∷ []) no_term_page page (omega (arith, is.there, is.longer))) ∙ is.bare;
    new_bare = λ n from below.
        ⊎_elim
        (λ (e : n ≡ length old). ap has_deltas (at_behind new_page old n e))
        (λ (l : n < length old). ap has_deltas (get_or_append_left old (new_page ∷ []) no_term_page n l) ∙ is.new_bare n from l)
        (last_or_before n below);
    one_base = λ count below within.
        let none : bases_below count (base_part (length old) payload ∷ []) ≡ 0 =
        ap (λ (b : Bool). cond b 1 0 + 0) (le-ltb (length old) count (omega (arith, is.longer)))
        in
        omega (arith, bases_more count parts (base_part (length old) payload ∷ []), is.one_base count below within, none);
    own = ap (λ (ps : List (List ℕ)). length ps)
        (bases_put_more page parts (base_part (length old) payload ∷ [])
        ∙ ap (λ (ps : List (List ℕ)). bases_put page parts ++ ps) (no_base_of (length old) page payload (λ e. omega (arith, e, is.there, is.longer)))
        ∙ append-nil (bases_put page parts))
        ∙ is.own;
    elsewhere = λ n h apart.
        bases_put_more n parts (base_part (length old) payload ∷ [])
        ∙ ap (λ (ps : List (List ℕ)). bases_put n parts ++ ps) (no_base_of (length old) n payload (λ e. omega (arith, e, h, is.longer)))
        ∙ append-nil (bases_put n parts) ∙ is.elsewhere n h apart;
    new_once = λ n from below.
        ⊎_elim
        (λ (e : n ≡ length old).
        subst (λ (k : ℕ). length (bases_put k (parts ++ base_part (length old) payload ∷ [])) ≡ 1) (sym e)
        (ap (λ (ps : List (List ℕ)). length ps)
        (later_bases (length old) parts (base_part (length old) payload ∷ []) (is.none_beyond (length old) (omega arith))
        ∙ one_base_put (length old) payload)))
        (λ (l : n < length old).
        ap (λ (ps : List (List ℕ)). length ps)
        (same_bases n parts (base_part (length old) payload ∷ []) (no_base_of (length old) n payload (λ e. omega (arith, e, l))))
        ∙ is.new_once n from l)
        (last_or_before n below);
    none_beyond = λ n past.
        later_bases n parts (base_part (length old) payload ∷ []) (is.none_beyond n (omega (arith, past, one_more old new_page)))
        ∙ no_base_of (length old) n payload (λ e. omega (arith, e, past, one_more old new_page));
    new_with = λ n from below.
        ⊎_elim
        (λ (e : n ≡ length old).
        subst HasLowPair (sym (at_behind new_page old n e))
        (q ∷ piece, of_payload payload q (q ∷ piece) spelled, ap (λ (l : Pair). has l (q ∷ piece)) low_is ∙ first_of_list q piece))
        (λ (l : n < length old).
        subst HasLowPair (sym (get_or_append_left old (new_page ∷ []) no_term_page n l)) (is.new_with n from l))
        (last_or_before n below);
    filled = λ h.
        subst HasSome (sym (get_or_append_left old (new_page ∷ []) no_term_page page (omega (arith, is.there, is.longer)))) (is.filled h);
    fresh = λ n from below.
        ⊎_elim
        (λ (e : n ≡ length old).
        let low : low_pair n (longer old new_page) ≡ q = ap (λ (k : ℕ). low_pair k (longer old new_page)) e ∙ low_behind old new_page ∙ low_is in
        ap (λ (l : Pair). has l list) low ∙ ap (has q) is.whole ∙ in_second q is.front left has_q)
        (λ (l : n < length old). ap (λ (x : Pair). has x list) (low_before old new_page n l) ∙ is.fresh n from l)
        (last_or_before n below);
    front = is.front ++ (q ∷ piece);
    whole = is.whole ∙ sym (append_assoc is.front (q ∷ piece) rest);
    last = length old;
    inside = λ p of. is.inside p (from_new p of);
    belong = λ p h.
        goes old new_page is.last of_low p (is.belong p (in_second p (q ∷ piece) rest h))
        (subst (λ (l : Pair). NotAfter l p) (sym low_is) (least p (in_second p (q ∷ piece) rest h)));
    above = λ p h.
        subst (λ (l : Pair). pair_cmp l p ≡ Less) (sym (low_behind old new_page ∙ low_is))
        (one_before q p (q ∷ piece) rest rises_left (first_of_list q piece) h);
    holds = λ set after index replaces.
        same_set (longer old new_page) (with_list (q ∷ piece) (without left after)) (without rest after) (with_piece set after replaces)
        (split_off old (without left after) is.last new_page (q ∷ piece) (is.holds set after index replaces) of_low
        (λ e. not_low is.last of_last.there (sym e ∙ low_is))
        (of_payload payload q (q ∷ piece) spelled)
        (λ p h. is.belong p (in_first p (q ∷ piece) rest h))
        (λ p h. subst (λ (l : Pair). NotAfter l p) (sym low_is) (least p (in_first p (q ∷ piece) rest h)))
        (λ p of not_after. none_beyond set after replaces p of (subst (λ (l : Pair). NotAfter l p) low_is not_after)));
  }

-- ---- at the end

pub finished : (page : ℕ) (list : List Pair) (now : List TermPage) (parts : List PartValue) (after : List TermPage) → Rewrites page list [] now parts after
    → (set with_it : PairSet) → IsIndex now set → Replaces page list now set with_it → IsIndex after with_it
finished page list now parts after is set with_it index replaces =
    same_set after (without [] with_it) with_it (λ p. refl) (is.holds set with_it index replaces)
