-- Unions of a kind: one more, all of them, and all kinds.
use Rattle.std.proofs.Common.{◌≡◌, ◌⊎◌, inl, inr, ℕ, zero, suc, ◌+◌, ◌<◌, ◌≤◌, List, [], ◌∷◌, ◌++◌, length, take, get_or, arith, refl, sym}
use Rattle.std.proofs.Common.{ap, ◌∙◌, subst, ⊎_elim, Contains, Option, Some, None}
use Rattle.std.proofs.lemmas.List.{take_all, take_more}
use Rattle.std.proofs.lemmas.List.Elements.{All-contains_itself, Contains-append_left, Contains-push, Contains-push_cases}
use Rattle.ax_gap.specs.Gaps.{IsRisingList}
use Rattle.ax_pages.specs.Contents.{TermPage}
use Rattle.ax_pairs.specs.PairSets.{PairSet}
use Rattle.ax_term.specs.declared.range.TermRange.{TermRange}
use Rattle.ax_index.specs.Grammar.{AreInGrammar}
use Rattle.ax_index.specs.Wanted.{HasInSome}
use Rattle.ax_candidates.specs.Candidates.{AreAllInGrammar, AreCandidates, AreOfAsked}
use Rattle.ax_candidates.specs.Meeting.{AreMet, AreMetWith, AreOfKindInGrammar, HoldsOfKind, IsAsked, IsBegun, IsNoneOfKind}
use Rattle.ax_candidates.specs.Points.{kind_of}
use Rattle.ax_candidates.specs.declared.points.Kind.{Kind}
use Rattle.ax_candidates.specs.declared.points.Kind.TheVariants.{Point, Points, Ranges}

of_none : (kind : Kind) (unions : List (List TermRange)) (P : List TermRange → Type 0) → HoldsOfKind kind (take 0 unions) P
of_none kind unions P ranges (k, l, e) same = absurd (omega (arith, l))

-- ---- one union more

module _ (kind : Kind) (unions : List (List TermRange)) (i : ℕ) (here : List TermRange) (low : i < length unions) (is : here ≡ get_or unions i here) where
  longer : take (i + 1) unions ≡ take i unions ++ here ∷ []
  longer = take_more unions i here low ∙ ap (λ (ranges : List TermRange). take i unions ++ ranges ∷ []) (sym is)

  of_more : (P : List TermRange → Type 0) → (kind_of here ≡ kind → P here) → HoldsOfKind kind (take i unions) P
      → HoldsOfKind kind (take (i + 1) unions) P
  of_more P holds before ranges there same =
      ⊎_elim
      (λ (old : Contains (take i unions) ranges). before ranges old same)
      (λ (new : here ≡ ranges). subst P new (holds (ap kind_of new ∙ same)))
      (Contains-push_cases (take i unions) here ranges (subst (λ (us : List (List TermRange)). Contains us ranges) longer there))

  of_fewer : (P : List TermRange → Type 0) → HoldsOfKind kind (take (i + 1) unions) P → HoldsOfKind kind (take i unions) P
  of_fewer P holds ranges there same =
      holds ranges
      (subst (λ (us : List (List TermRange)). Contains us ranges) (sym longer) (Contains-append_left (take i unions) (here ∷ []) ranges there)) same

  of_last : (P : List TermRange → Type 0) → kind_of here ≡ kind → HoldsOfKind kind (take (i + 1) unions) P → P here
  of_last P same holds =
      holds here (subst (λ (us : List (List TermRange)). Contains us here) (sym longer) (Contains-push (take i unions) here)) same

pub met_none : (kind : Kind) (unions : List (List TermRange)) (found : Option (List ℕ)) (set : PairSet) → AreMetWith kind (take 0 unions) found set found
met_none kind unions found set = record {
  are = λ n. (λ h. (h, of_none kind unions (λ ranges. HasInSome ranges set n)), λ h. h.0);
}

pub read_none : (kind : Kind) (unions : List (List TermRange)) (pages : List TermPage) → AreOfKindInGrammar kind (take 0 unions) pages
read_none kind unions pages = record { each = of_none kind unions (λ ranges. AreInGrammar ranges pages) }

pub none_none : (kind : Kind) (unions : List (List TermRange)) → IsNoneOfKind kind (take 0 unions)
none_none kind unions = record { none = of_none kind unions (λ ranges. ⊥) }

pub met_more : (kind : Kind) (unions : List (List TermRange)) (i : ℕ) (here own : List TermRange) (set : PairSet) (found left : Option (List ℕ))
    (numbers : List ℕ) → i < length unions → here ≡ get_or unions i here → own ≡ here → kind_of own ≡ kind
    → AreMetWith kind (take i unions) found set left → AreMet left own set numbers
    → AreMetWith kind (take (i + 1) unions) found set (Some numbers)
met_more kind unions i here own set found left numbers low is alike same before met = record {
  are = λ n.
      let P : List TermRange → Type 0 = λ ranges. HasInSome ranges set n in (
        λ h.
            let (old, more) = (met.are n).0 h in
            let (first, others) = (before.are n).0 old in
            (first, of_more kind unions i here low is P (λ _. subst P alike more) others),
        λ h.
            (met.are n).1 (
              (before.are n).1 (h.0, of_fewer kind unions i here low is P h.1),
              subst P (sym alike) (of_last kind unions i here low is P (ap kind_of (sym alike) ∙ same) h.1),
            ),
      );
}

pub met_still : (kind : Kind) (unions : List (List TermRange)) (i : ℕ) (here own : List TermRange) (set : PairSet) (found left : Option (List ℕ))
    → i < length unions → here ≡ get_or unions i here → own ≡ here → (kind_of own ≡ kind → ⊥)
    → AreMetWith kind (take i unions) found set left → AreMetWith kind (take (i + 1) unions) found set left
met_still kind unions i here own set found left low is alike other before = record {
  are = λ n.
      let P : List TermRange → Type 0 = λ ranges. HasInSome ranges set n in (
        λ h.
            let (first, others) = (before.are n).0 h in
            (first, of_more kind unions i here low is P (λ same. absurd (other (ap kind_of alike ∙ same))) others),
        λ h. (before.are n).1 (h.0, of_fewer kind unions i here low is P h.1),
      );
}

pub read_more : (kind : Kind) (unions : List (List TermRange)) (i : ℕ) (here own : List TermRange) (pages : List TermPage)
    → i < length unions → here ≡ get_or unions i here → own ≡ here
    → AreOfKindInGrammar kind (take i unions) pages → AreInGrammar own pages → AreOfKindInGrammar kind (take (i + 1) unions) pages
read_more kind unions i here own pages low is alike before met = record {
  each =
      of_more kind unions i here low is (λ ranges. AreInGrammar ranges pages)
      (λ _. subst (λ (ranges : List TermRange). AreInGrammar ranges pages) alike met) before.each;
}

pub read_still : (kind : Kind) (unions : List (List TermRange)) (i : ℕ) (here own : List TermRange) (pages : List TermPage)
    → i < length unions → here ≡ get_or unions i here → own ≡ here → (kind_of own ≡ kind → ⊥)
    → AreOfKindInGrammar kind (take i unions) pages → AreOfKindInGrammar kind (take (i + 1) unions) pages
read_still kind unions i here own pages low is alike other before = record {
  each =
      of_more kind unions i here low is (λ ranges. AreInGrammar ranges pages)
      (λ same. absurd (other (ap kind_of alike ∙ same))) before.each;
}

pub none_still : (kind : Kind) (unions : List (List TermRange)) (i : ℕ) (here own : List TermRange)
    → i < length unions → here ≡ get_or unions i here → own ≡ here → (kind_of own ≡ kind → ⊥)
    → IsNoneOfKind kind (take i unions) → IsNoneOfKind kind (take (i + 1) unions)
none_still kind unions i here own low is alike other before = record {
  none =
      of_more kind unions i here low is (λ ranges. ⊥)
      (λ same. absurd (other (ap kind_of alike ∙ same))) before.none;
}

-- a union in front of others
cons_cases : (own ranges : List TermRange) (asked : List (List TermRange)) → Contains (own ∷ asked) ranges → (own ≡ ranges) ⊎ Contains asked ranges
cons_cases own ranges asked (zero, l, e) = inl e
cons_cases own ranges asked (suc k, l, e) = inr (k, omega (arith, l), e)

module _ (unions : List (List TermRange)) (pages : List TermPage) (own : List TermRange) (there : Contains unions own) where
  -- the first that is asked
  asked_first : (numbers : List ℕ) → IsAsked None own pages numbers → AreOfAsked unions pages numbers
  asked_first numbers is = record {
    asked = own ∷ [];
    some = omega arith;
    among = λ ranges among.
        ⊎_elim {C = Contains unions ranges}
        (λ (e : own ≡ ranges). subst (λ (rs : List TermRange). Contains unions rs) e there)
        (λ (none : Contains [] ranges). absurd (omega (arith, none.1)))
        (cons_cases own ranges [] among);
    met = record {
      each = λ ranges among.
          ⊎_elim {C = AreInGrammar ranges pages}
          (λ (e : own ≡ ranges). subst (λ (rs : List TermRange). AreInGrammar rs pages) e is.met)
          (λ (none : Contains [] ranges). absurd (omega (arith, none.1)))
          (cons_cases own ranges [] among);
    };
    all = λ apart number stands. is.all apart number tt (stands own (0, omega arith, refl));
  }

  -- and one more
  asked_more : (before numbers : List ℕ) → AreOfAsked unions pages before → IsAsked (Some before) own pages numbers → AreOfAsked unions pages numbers
  asked_more before numbers begun is = record {
    asked = own ∷ begun.asked;
    some = omega arith;
    among = λ ranges among.
        ⊎_elim {C = Contains unions ranges}
        (λ (e : own ≡ ranges). subst (λ (rs : List TermRange). Contains unions rs) e there)
        (λ (old : Contains begun.asked ranges). begun.among ranges old)
        (cons_cases own ranges begun.asked among);
    met = record {
      each = λ ranges among.
          ⊎_elim {C = AreInGrammar ranges pages}
          (λ (e : own ≡ ranges). subst (λ (rs : List TermRange). AreInGrammar rs pages) e is.met)
          (λ (old : Contains begun.asked ranges). begun.met.each ranges old)
          (cons_cases own ranges begun.asked among);
    };
    all = λ apart number stands.
        is.all apart number
        (begun.all apart number (λ ranges old. let (k, l, e) = old in stands ranges (suc k, omega (arith, l), e)))
        (stands own (0, omega arith, refl));
  }

own_there : (unions : List (List TermRange)) (i : ℕ) (here own : List TermRange) → i < length unions → here ≡ get_or unions i here → own ≡ here
    → Contains unions own
own_there unions i here own low is alike =
    let there : Contains unions here = (i, low, sym is) in
    subst (λ (ranges : List TermRange). Contains unions ranges) (sym alike) there

pub begun_more : (left : Option (List ℕ)) (unions : List (List TermRange)) (i : ℕ) (here own : List TermRange) (pages : List TermPage)
    (numbers : List ℕ) → i < length unions → here ≡ get_or unions i here → own ≡ here
    → IsBegun left unions pages → (left ≡ Some numbers) ⊎ IsAsked left own pages numbers → AreOfAsked unions pages numbers
begun_more None unions i here own pages numbers low is alike begun (inl none) = absurd cc
begun_more None unions i here own pages numbers low is alike begun (inr asked) =
    asked_first unions pages own (own_there unions i here own low is alike) numbers asked
begun_more (Some before) unions i here own pages numbers low is alike begun (inl same) =
    let equal : before ≡ numbers = cc in
    subst (λ (ns : List ℕ). AreOfAsked unions pages ns) equal begun
begun_more (Some before) unions i here own pages numbers low is alike begun (inr asked) =
    asked_more unions pages own (own_there unions i here own low is alike) before numbers begun asked

-- ---- all unions of a kind

pub met_all : (kind : Kind) (unions : List (List TermRange)) (i : ℕ) (set : PairSet) (found left : Option (List ℕ)) → length unions ≤ i
    → AreMetWith kind (take i unions) found set left → AreMetWith kind unions found set left
met_all kind unions i set found left past met =
    subst (λ (us : List (List TermRange)). AreMetWith kind us found set left) (take_all i unions past) met

pub read_all : (kind : Kind) (unions : List (List TermRange)) (i : ℕ) (pages : List TermPage) → length unions ≤ i
    → AreOfKindInGrammar kind (take i unions) pages → AreOfKindInGrammar kind unions pages
read_all kind unions i pages past read =
    subst (λ (us : List (List TermRange)). AreOfKindInGrammar kind us pages) (take_all i unions past) read

pub none_all : (kind : Kind) (unions : List (List TermRange)) (i : ℕ) → length unions ≤ i
    → IsNoneOfKind kind (take i unions) → IsNoneOfKind kind unions
none_all kind unions i past none =
    subst (λ (us : List (List TermRange)). IsNoneOfKind kind us) (take_all i unions past) none

-- none yet, and all
pub ruleset of_no_unions = (met_none, read_none, none_none)

pub ruleset of_all_unions = (met_all, read_all, none_all)

-- ---- those of all kinds are all

of_each : (Q : Kind → Type 0) → Q Point → Q Points → Q Ranges → (kind : Kind) → Q kind
of_each Q point points others Point = point
of_each Q point points others Points = points
of_each Q point points others Ranges = others

of_all_kinds : (unions : List (List TermRange)) (P : List TermRange → Type 0)
    → HoldsOfKind Point unions P → HoldsOfKind Points unions P → HoldsOfKind Ranges unions P
    → (ranges : List TermRange) → Contains unions ranges → P ranges
of_all_kinds unions P point points others ranges there =
    of_each (λ kind. HoldsOfKind kind unions P) point points others (kind_of ranges) ranges there refl

pub are_candidates : (unions : List (List TermRange)) (set : PairSet) (first left : Option (List ℕ)) (numbers : List ℕ) → IsRisingList numbers
    → AreMetWith Point unions None set first → AreMetWith Points unions first set left → AreMetWith Ranges unions left set (Some numbers)
    → AreCandidates unions set numbers
are_candidates unions set first left numbers rising point points others = record {
  rising = rising;
  are = λ n. (
    λ h.
        let (old, last) = (others.are n).0 h in
        let (older, more) = (points.are n).0 old in
        of_all_kinds unions (λ ranges. HasInSome ranges set n) ((point.are n).0 older).1 more last,
    λ all.
        (others.are n).1 (
          (points.are n).1 ((point.are n).1 (tt, λ ranges there same. all ranges there), λ ranges there same. all ranges there),
          λ ranges there same. all ranges there,
        ),
  );
}

pub are_all_met : (unions : List (List TermRange)) (pages : List TermPage) → AreOfKindInGrammar Point unions pages
    → AreOfKindInGrammar Points unions pages → AreOfKindInGrammar Ranges unions pages → AreAllInGrammar unions pages
are_all_met unions pages point points others = record {
  each = of_all_kinds unions (λ ranges. AreInGrammar ranges pages) point.each points.each others.each;
}

pub not_none : (unions : List (List TermRange)) → 0 < length unions
    → IsNoneOfKind Point unions → IsNoneOfKind Points unions → IsNoneOfKind Ranges unions → ⊥
not_none unions some point points others =
    of_all_kinds unions (λ ranges. ⊥) point.none points.none others.none (get_or unions 0 []) (All-contains_itself unions 0 [] some)
