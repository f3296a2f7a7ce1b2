-- What is kept of rows leads to the front of all.
use Rattle.std.proofs.Common.{◌≡◌, ℕ, zero, suc, ◌+◌, ◌≤◌, List, [], ◌∷◌, ◌++◌, length, take, drop, Bool, true, false, not, cond, Option, Some, None, refl, sym, ap, ◌∙◌, subst, append_assoc, arith}
use Rattle.std.specs.BTreeSet.{BTreeSet, IsUnchanged, Updates}
use Rattle.std.specs.Bool.{OnFalse}
use Rattle.std.specs.Cmp.Lexicographic.{slice_cmp}
use Rattle.std.specs.List.{cons_option, filter_map}
use Rattle.std.specs.Ordering.{nat_cmp}
use Rattle.std.specs.Prelude.{◌||◌, ◌&&◌}
use Rattle.std.specs.Str.{bytes_eq}
use Rattle.std.proofs.lemmas.List.{append-nil, length-drop, length-take, length-take-le, take-append-le}
use Rattle.ax_tree.specs.CanonicalText.{canonical_text}
use Rattle.ax_tree.specs.declared.tree.Tree.{Tree}
use Rattle.ax_mean.specs.declared.query.KeyedRow.{KeyedRow}
use Rattle.ax_mean.specs.declared.query.Query.{Query}
use Rattle.ax_mean.specs.declared.value.Value.{Value}
use Rattle.ax_mean.specs.declared.value.Value.TheVariants.{Undefined, Defined}
use Rattle.ax_mean.specs.Answer.{distinct_where, limited, unseen}
use Rattle.ax_mean.specs.Rows.{Bound, keyed, keyed_rows, keyed_where, order_values, passes, rows_of_tree, shown}
use Rattle.ax_mean.specs.Values.{is_defined}
use Rattle.ax_rows.specs.declared.front.FrontRows.{FrontRows}
use Rattle.ax_rows.specs.declared.front.FrontTaker.{FrontTaker}
use Rattle.ax_rows.specs.Front.{FrontAsked, IsFront, TakesFront, fresh, front_after, front_keeps, left_behind, window_of}
use Rattle.ax_rows.specs.Taking.{Gains}
use Rattle.ax_rows.proofs.Seen.{has, has_more}

pub begins : (front : FrontRows) (distinct : Bool) (skip : ℕ) (limit : Option ℕ)
    → front.left ≡ skip → front.limit ≡ limit → front.rows.items ≡ []
    → ((more : List KeyedRow) → fresh front.seen more ≡ distinct_where distinct more)
    → IsFront front distinct skip limit []
begins front distinct skip limit l r none texts = record {
  has_limit = r;
  leads = λ more. λ i. limited (r i) (none i ++ drop (l i) (texts more i));
}

-- ---- whether a text was seen

seen_first : (b : Bool) (row : KeyedRow) (rest others : List KeyedRow) → b ≡ true
    → others ≡ cond b others (row ∷ rest)
seen_first true row rest others e = refl
seen_first false row rest others e = absurd (cc)

not_seen_first : (b : Bool) (row : KeyedRow) (rest others : List KeyedRow) → b ≡ false
    → row ∷ rest ≡ cond b others (row ∷ rest)
not_seen_first true row rest others e = absurd (cc)
not_seen_first false row rest others e = refl

not_false : (b : Bool) → false ≡ not b → b ≡ true
not_false true e = refl
not_false false e = absurd (cc)

not_true : (b : Bool) → true ≡ not b → b ≡ false
not_true true e = absurd (cc)
not_true false e = refl

abbrev shown_text : KeyedRow → List ℕ
shown_text row = canonical_text row.shown

same_keys : (old new : BTreeSet (List ℕ)) → new.keys ≡ old.keys → (text : List ℕ)
    → has new text ≡ has old text
same_keys old new e text =
    ap (λ (keys : List (List ℕ)). has (record { keys = keys }) text) e

pub told_by : (found : Bool) (row : KeyedRow) (text : List ℕ) (old new : BTreeSet (List ℕ))
    → text ≡ shown_text row → found ≡ not (has old text)
    → Updates (slice_cmp nat_cmp) old new text true
    → OnFalse found (IsUnchanged old new) → (more : List KeyedRow)
    → cond found (row ∷ fresh (Some new) more) (fresh (Some new) more) ≡ fresh (Some old) (row ∷ more)
told_by true row text old new is added updates kept more =
    let fresh_so : has old (shown_text row) ≡ false = ap (has old) (sym is) ∙ not_true _ added in
    let set : has new ≡ (λ other. bytes_eq (shown_text row) other || has old other) = λ i other.
    has_more old new (shown_text row) other (subst (λ t. Updates (slice_cmp nat_cmp) old new t true) is updates) i in
    ap (λ (seen : List ℕ → Bool). row ∷ unseen seen more) set
    ∙ not_seen_first (has old (shown_text row)) row _ _ fresh_so
told_by false row text old new is added updates kept more =
    let seen_so : has old (shown_text row) ≡ true = ap (has old) (sym is) ∙ not_false _ added in
    let set : has new ≡ has old = λ i other. same_keys old new kept other i in
    ap (λ (seen : List ℕ → Bool). unseen seen more) set
    ∙ seen_first (has old (shown_text row)) row _ _ seen_so

-- ---- one row more

pub put_one : (old new : FrontRows) (row : KeyedRow) (more : List KeyedRow)
    (seen : Option (BTreeSet (List ℕ)))
    → new.limit ≡ old.limit → new.seen ≡ seen
    → ((rest : List KeyedRow) → new.rows.items ++ drop new.left rest
    ≡ old.rows.items ++ drop old.left (row ∷ rest))
    → row ∷ fresh seen more ≡ fresh old.seen (row ∷ more)
    → front_after new more ≡ front_after old (row ∷ more)
put_one old new row more seen r same rows told =
    (λ i. limited (r i) (new.rows.items ++ drop new.left (fresh (same i) more)))
    ∙ ap (limited old.limit) (rows (fresh seen more))
    ∙ ap (λ rs. limited old.limit (old.rows.items ++ drop old.left rs)) told

pub put_none : (old new : FrontRows) (row : KeyedRow) (more : List KeyedRow)
    → new.limit ≡ old.limit → new.left ≡ old.left → new.rows.items ≡ old.rows.items
    → fresh new.seen more ≡ fresh old.seen (row ∷ more)
    → front_after new more ≡ front_after old (row ∷ more)
put_none old new row more r left rows told = λ i. limited (r i) (rows i ++ drop (left i) (told i))

pub one_more : (old new : FrontRows) (row : KeyedRow) (distinct : Bool) (skip : ℕ) (limit : Option ℕ)
    (rows : List KeyedRow) → new.limit ≡ old.limit
    → ((more : List KeyedRow) → front_after new more ≡ front_after old (row ∷ more))
    → IsFront old distinct skip limit rows → IsFront new distinct skip limit (rows ++ row ∷ [])
one_more old new row distinct skip limit rows r more holds = record {
  has_limit = r ∙ holds.has_limit;
  leads = λ rest. more rest ∙ holds.leads (row ∷ rest)
      ∙ ap (window_of distinct skip limit) (sym (append_assoc rows (row ∷ []) rest));
}

-- ---- the end

nothing_fresh : (seen : Option (BTreeSet (List ℕ))) → fresh seen [] ≡ []
nothing_fresh None = refl
nothing_fresh (Some texts) = refl

nothing_left : (n : ℕ) (rows : List KeyedRow) → rows ≡ [] → drop n rows ≡ []
nothing_left zero rows e = e
nothing_left (suc n) [] e = refl
nothing_left (suc n) (row ∷ rows) e = absurd (cc)

-- what is kept are the rows chosen, but for rows that are too many
pub front_is : (front : FrontRows) (distinct : Bool) (skip : ℕ) (limit : Option ℕ)
    (rows : List KeyedRow) → IsFront front distinct skip limit rows
    → limited limit front.rows.items ≡ window_of distinct skip limit rows
front_is front distinct skip limit rows holds =
    (λ i. limited (sym holds.has_limit i) (sym (append-nil front.rows.items) i))
    ∙ ap (λ rest. limited front.limit (front.rows.items ++ rest))
    (sym (nothing_left front.left (fresh front.seen []) (nothing_fresh front.seen)))
    ∙ holds.leads [] ∙ ap (window_of distinct skip limit) (append-nil rows)

pub chosen_of : (front : FrontRows) (distinct : Bool) (skip : ℕ) (limit : Option ℕ)
    (rows found : List KeyedRow) → found ≡ limited front.limit front.rows.items
    → IsFront front distinct skip limit rows
    → found ≡ limited limit (drop skip (distinct_where distinct rows))
chosen_of front distinct skip limit rows found is holds =
    is ∙ ap (λ (own : Option ℕ). limited own front.rows.items) holds.has_limit
    ∙ front_is front distinct skip limit rows holds

-- ---- where no further row is wanted

full_front : (front : FrontRows) (most : ℕ) (more : List KeyedRow) → front.limit ≡ Some most
    → most ≤ length front.rows.items → front_after front more ≡ take most front.rows.items
full_front front most more r high =
    ap (λ limit. limited limit (front.rows.items ++ drop front.left (fresh front.seen more))) r
    ∙ take-append-le most front.rows.items (drop front.left (fresh front.seen more)) high

pub full_stays : (front : FrontRows) (most : ℕ) (distinct : Bool) (skip : ℕ) (limit : Option ℕ)
    (rows more : List KeyedRow) → front.limit ≡ Some most → most ≤ length front.rows.items
    → IsFront front distinct skip limit rows → IsFront front distinct skip limit (rows ++ more)
full_stays front most distinct skip limit rows more r high holds = record {
  has_limit = holds.has_limit;
  leads = λ rest. full_front front most rest r high ∙ sym (full_front front most (more ++ rest) r high)
      ∙ holds.leads (more ++ rest) ∙ ap (window_of distinct skip limit) (sym (append_assoc rows more rest));
}

pub full_so : (front : FrontRows) (distinct : Bool) (skip most : ℕ) (rows : List KeyedRow)
    → IsFront front distinct skip (Some most) rows
    → skip + most ≤ length (distinct_where distinct rows) → most ≤ length front.rows.items
full_so front distinct skip most rows holds many =
    let others : List KeyedRow = drop skip (distinct_where distinct rows) in
    let same : length (take most front.rows.items) ≡ length (take most others) =
    ap length (front_is front distinct skip (Some most) rows holds) in
    let behind = length-drop skip (distinct_where distinct rows) in
    let all : length (take most others) ≡ most =
    length-take-le most others (omega (arith, behind, many)) in
    let some : length (take most front.rows.items) ≤ length front.rows.items = short most front.rows.items in
    omega (arith, same, all, some) where
      short : (n : ℕ) (rs : List KeyedRow) → length (take n rs) ≤ length rs
      short n rs = let e = length-take n rs in omega (arith, e)

pub full_when : (front : FrontRows) (own most : ℕ) (distinct : Bool) (skip : ℕ) (rows : List KeyedRow)
    → front.limit ≡ Some own → IsFront front distinct skip (Some most) rows
    → skip + most ≤ length (distinct_where distinct rows) → own ≤ length front.rows.items
full_when front own most distinct skip rows is holds many =
    let limit : front.limit ≡ Some most = holds.has_limit in
    let same : most ≡ own = cc in
    subst (λ (n : ℕ). n ≤ length front.rows.items) same (full_so front distinct skip most rows holds many)

-- ---- a taker

taken_by : (o : Option KeyedRow) (rows : List KeyedRow) → o ≡ None → rows ≡ rows ++ cons_option o []
taken_by None rows e = sym (append-nil rows)
taken_by (Some row) rows e = absurd (cc)

taken_one : (o : Option KeyedRow) (row : KeyedRow) (rows : List KeyedRow) → o ≡ Some row
    → rows ++ row ∷ [] ≡ rows ++ cons_option o []
taken_one None row rows e = absurd (cc)
taken_one (Some r) row rows e = let same : row ≡ r = cc in ap (λ x. rows ++ x ∷ []) same

kept_by : (taker : FrontTaker) (asked : FrontAsked) (before : List KeyedRow) (bound : Bound)
    → TakesFront taker asked before
    → front_keeps asked bound
    ≡ keyed_where taker.query.now taker.number (order_values taker.query.now taker.tree.now) bound
kept_by taker asked before bound takes = λ i.
    keyed_where (sym takes.by i) (sym takes.under i) (order_values (sym takes.by i) (sym takes.within i)) bound

pub gains_no_row : (taker : FrontTaker) (bound : Bound) (found : Option KeyedRow)
    → found ≡ keyed_where taker.query.now taker.number (order_values taker.query.now taker.tree.now) bound
    → found ≡ None → Gains TakesFront front_keeps taker (bound ∷ []) taker
gains_no_row taker bound found is none asked before takes =
    subst (TakesFront taker asked)
    (taken_by (front_keeps asked bound) before (kept_by taker asked before bound takes ∙ sym is ∙ none)) takes

pub gains_row : (old new : FrontTaker) (bound : Bound) (found : Option KeyedRow) (row : KeyedRow)
    → found ≡ keyed_where old.query.now old.number (order_values old.query.now old.tree.now) bound
    → found ≡ Some row → new.query.now ≡ old.query.now → new.number ≡ old.number
    → new.tree.now ≡ old.tree.now → new.front.limit ≡ old.front.limit
    → ((more : List KeyedRow) → front_after new.front more ≡ front_after old.front (row ∷ more))
    → Gains TakesFront front_keeps old (bound ∷ []) new
gains_row old new bound found row is some by under within limit more asked before takes =
    subst (TakesFront new asked)
    (taken_one (front_keeps asked bound) row before (kept_by old asked before bound takes ∙ sym is ∙ some))
    (record {
      by = by ∙ takes.by;
      under = under ∙ takes.under;
      within = within ∙ takes.within;
      front = one_more old.front new.front row asked.distinct asked.skip asked.limit before limit more
          takes.front;
    })

pub enough_taken : (taker : FrontTaker) (full : Bool) → full ≡ true
    → (full ≡ true → (distinct : Bool) (skip : ℕ) (limit : Option ℕ) (rows more : List KeyedRow)
    → IsFront taker.front distinct skip limit rows
    → IsFront taker.front distinct skip limit (rows ++ more))
    → (rows : List Bound) → Gains TakesFront front_keeps taker rows taker
enough_taken taker full is sound rows asked before takes = record {
  by = takes.by;
  under = takes.under;
  within = takes.within;
  front = sound is asked.distinct asked.skip asked.limit before (filter_map (front_keeps asked) rows)
      takes.front;
}

-- ---- a row that is only counted

row_there : (values : List Value) (number : ℕ) (place : List ℕ) (b : Bool) (value : Value)
    → b && is_defined value ≡ true
    → (row : KeyedRow) × (cond b (keyed values number place value) None ≡ Some row)
row_there values number place true (Defined tree) e = (_, refl)
row_there values number place true Undefined e = absurd (cc)
row_there values number place false value e = absurd (cc)

no_row_there : (values : List Value) (number : ℕ) (place : List ℕ) (b : Bool) (value : Value)
    → b && is_defined value ≡ false → cond b (keyed values number place value) None ≡ None
no_row_there values number place true (Defined tree) e = absurd (cc)
no_row_there values number place true Undefined e = refl
no_row_there values number place false value e = refl

pub gains_none_counted : (taker : FrontTaker) (bound : Bound) (found : Bool)
    → found ≡ (passes taker.query.now.condition bound.env && is_defined (shown taker.query.now.pick bound.env))
    → found ≡ false → Gains TakesFront front_keeps taker (bound ∷ []) taker
gains_none_counted taker bound found is none =
    gains_no_row taker bound _ refl
    (no_row_there (order_values taker.query.now taker.tree.now) taker.number bound.place
    (passes taker.query.now.condition bound.env) (shown taker.query.now.pick bound.env) (sym is ∙ none))

one_less_left : (old new : FrontRows) (row : KeyedRow) (more : List KeyedRow) (left : ℕ)
    → old.left ≡ suc left → old.seen ≡ None → new.left ≡ left → new.limit ≡ old.limit
    → new.seen ≡ old.seen → new.rows.items ≡ old.rows.items
    → front_after new more ≡ front_after old (row ∷ more)
one_less_left old new row more left own none is limit seen rows =
    (λ i. limited (limit i) (rows i ++ drop (is i) (fresh ((seen ∙ none) i) more)))
    ∙ (λ i. limited old.limit (old.rows.items ++ drop (sym own i) (fresh (sym none i) (row ∷ more))))

left_so : (seen : Option (BTreeSet (List ℕ))) (own left : ℕ) → left_behind seen own ≡ Some left
    → (own ≡ suc left) × (seen ≡ None)
left_so (Some texts) own left e = absurd (cc)
left_so None zero left e = absurd (cc)
left_so None (suc own) left e = let same : own ≡ left = cc in (ap suc same, refl)

pub gains_counted : (old new : FrontTaker) (bound : Bound) (found : Bool) (behind : Option ℕ) (left : ℕ)
    → found ≡ (passes old.query.now.condition bound.env && is_defined (shown old.query.now.pick bound.env))
    → found ≡ true → behind ≡ left_behind old.front.seen old.front.left → behind ≡ Some left
    → new.query.now ≡ old.query.now → new.number ≡ old.number → new.tree.now ≡ old.tree.now
    → new.front.left ≡ left → new.front.limit ≡ old.front.limit → new.front.seen ≡ old.front.seen
    → new.front.rows.items ≡ old.front.rows.items
    → Gains TakesFront front_keeps old (bound ∷ []) new
gains_counted old new bound found behind left is some told so by under within less limit seen rows =
    let there = row_there (order_values old.query.now old.tree.now) old.number bound.place
    (passes old.query.now.condition bound.env) (shown old.query.now.pick bound.env) (sym is ∙ some) in
    let counted = left_so old.front.seen old.front.left left (sym told ∙ so) in
    gains_row old new bound _ there.0 refl there.1 by under within limit
    (λ more. one_less_left old.front new.front there.0 more left counted.0 counted.1 less limit seen rows)

-- all rows of a document
pub of_document : (old new : FrontTaker) (query : Query) (number : ℕ) (tree : Tree)
    → old.query.now ≡ query → old.number ≡ number → old.tree.now ≡ tree
    → Gains TakesFront front_keeps old (rows_of_tree query.froms tree) new
    → (distinct : Bool) (skip : ℕ) (limit : Option ℕ) (rows : List KeyedRow)
    → IsFront old.front distinct skip limit rows
    → IsFront new.front distinct skip limit (rows ++ keyed_rows query number tree)
of_document old new query number tree by under within gains distinct skip limit rows holds =
    (gains
    (record {
      query = query;
      number = number;
      tree = tree;
      distinct = distinct;
      skip = skip;
      limit = limit;
    }) rows
    (record { by = by; under = under; within = within; front = holds })).front
