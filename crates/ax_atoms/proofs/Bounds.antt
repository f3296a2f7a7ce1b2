-- Two constants as bounds of a range, and the ranges of several constants.
use Rattle.std.proofs.Common.{◌≡◌, List, [], ◌∷◌, map, Bool, true, false, cond, ◌&&◌, ◌==◌, nat_le, Some, None, refl, sym, ap, ap₂, ◌∙◌}
use Rattle.std.proofs.lemmas.Bool.{false≢true}
use Rattle.std.proofs.lemmas.Option.{none-some, same_Some}
use Rattle.ax_tree.specs.declared.tree.Tree.{Tree, out-Tree}
use Rattle.ax_tree.specs.declared.tree.Tree.TheOpen.{Tree-F}
use Rattle.ax_mean.specs.declared.query.Step.{Step}
use Rattle.ax_mean.specs.declared.value.Value.{Value}
use Rattle.ax_mean.specs.declared.value.Value.TheVariants.{Undefined, Defined}
use Rattle.ax_mean.specs.Values.{kind, kind_level}
use Rattle.ax_term.specs.CutValues.{CutValue, cut_level, cut_of}
use Rattle.ax_term.specs.Terms.{Term}
use Rattle.ax_term.specs.declared.range.TermRange.{TermRange}
use Rattle.ax_atoms.specs.Atoms.{Atom}
use Rattle.ax_atoms.specs.Conjuncts.{conjunct_of}
use Rattle.ax_atoms.specs.declared.conjunct.Conjunct.{Conjunct}
use Rattle.ax_atoms.specs.Constants.{and_range, are_alike, bound_in, range_in, ranges_in}
use Rattle.ax_atoms.specs.Recognised.{answered, are_bounds, are_single, fits_level, is_bound, is_single, where_so}
use Rattle.ax_atoms.specs.Spans.{only, up_to}

-- the conjunct of a condition on that path with these ranges
abbrev with_ranges : List Step → List TermRange → Conjunct
with_ranges path ranges = record { paths = path ∷ []; whole = false; ranges = Some ranges }

-- what a test tells where there is a result
some_where : (p : Bool) (own a : CutValue) → Some a ≡ cond p (Some own) None → (p ≡ true) × (a ≡ own)
some_where true own a h = (refl, same_Some a own h)
some_where false own a h = absurd (none-some a (sym h))

abbrev is_bound_level : Tree-F Tree → Bool
is_bound_level x = nat_le 3 (kind_level x) && nat_le (kind_level x) 4 && fits_level x

alike_levels : (s t : Tree) (x y : Tree-F Tree) → is_bound_level x ≡ true → is_bound_level y ≡ true
    → are_alike (cut_level s x) (cut_level t y) ≡ (kind_level x == kind_level y)
alike_levels s t (Tree-F.Number a) (Tree-F.Number b) h k = refl
alike_levels s t (Tree-F.Number a) (Tree-F.Text b) h k = refl
alike_levels s t (Tree-F.Text a) (Tree-F.Number b) h k = refl
alike_levels s t (Tree-F.Text a) (Tree-F.Text b) h k = refl
alike_levels s t (Tree-F.Number a) y h k = absurd (false≢true k)
alike_levels s t (Tree-F.Text a) y h k = absurd (false≢true k)
alike_levels s t x y h k = absurd (false≢true h)

pub two_so : (k m : Value) → is_bound k ≡ true → is_bound m ≡ true
    → are_alike (cut_of k) (cut_of m) ≡ (kind k == kind m)
two_so Undefined m h k = absurd (false≢true h)
two_so (Defined s) Undefined h k = absurd (false≢true k)
two_so (Defined s) (Defined t) h k = alike_levels s t (out-Tree s) (out-Tree t) h k

-- two bounds in terms are of one kind where the constants are
told : (k m : Value) (low high : CutValue) → Some low ≡ bound_in k → Some high ≡ bound_in m
    → are_alike low high ≡ are_bounds k m
told k m low high h g =
    let p = some_where (is_bound k) (cut_of k) low h in
    let q = some_where (is_bound m) (cut_of m) high g in
    ap₂ are_alike p.1 q.1 ∙ two_so k m p.0 q.0
    ∙ sym (ap₂ (λ a b. (a && b) && (kind k == kind m)) p.0 q.0)

pub two_bounds : (path : List Step) (k m : Value) (low high : CutValue) → Some low ≡ bound_in k
    → Some high ≡ bound_in m → are_alike low high ≡ true
    → with_ranges path (up_to (Term.Plain path low) (Term.Plain path high) ∷ [])
    ≡ conjunct_of (answered (Atom.Within path k m))
two_bounds path k m low high h g is =
    let p = some_where (is_bound k) (cut_of k) low h in
    let q = some_where (is_bound m) (cut_of m) high g in
    ap₂ (λ a b. with_ranges path (up_to (Term.Plain path a) (Term.Plain path b) ∷ [])) p.1 q.1
    ∙ ap (λ b. conjunct_of (where_so b (Atom.Within path k m))) (sym is ∙ told k m low high h g)

pub no_two_bounds : (path : List Step) (k m : Value) (low high : CutValue) → Some low ≡ bound_in k
    → Some high ≡ bound_in m → are_alike low high ≡ false
    → conjunct_of None ≡ conjunct_of (answered (Atom.Within path k m))
no_two_bounds path k m low high h g is =
    ap (λ b. conjunct_of (where_so b (Atom.Within path k m))) (sym is ∙ told k m low high h g)

-- ---- several constants

ranges_by : (p q : Bool) (range : TermRange) (ranges : List TermRange)
    → and_range (cond p (Some range) None) (cond q (Some ranges) None) ≡ cond (p && q) (Some (range ∷ ranges)) None
ranges_by true true range ranges = refl
ranges_by true false range ranges = refl
ranges_by false q range ranges = refl

all_ranges : (path : List Step) (ks : List Value)
    → ranges_in path ks ≡ cond (are_single ks) (Some (map (only path) ks)) None
all_ranges path [] = refl
all_ranges path (k ∷ ks) =
    ap (and_range (range_in path k)) (all_ranges path ks)
    ∙ ranges_by (is_single k) (are_single ks) (only path k) (map (only path) ks)

some_single : (b : Bool) (own ranges : List TermRange) (atom : Atom) → cond b (Some own) None ≡ Some ranges
    → (b ≡ true) × (own ≡ ranges)
some_single true own ranges atom h = (refl, same_Some own ranges h)
some_single false own ranges atom h = absurd (none-some ranges h)

none_single : (b : Bool) (own : List TermRange) → cond b (Some own) None ≡ None → b ≡ false
none_single true own h = absurd (none-some own (sym h))
none_single false own h = refl

pub some_ranges : (path : List Step) (ks : List Value) (ranges : List TermRange) → Some ranges ≡ ranges_in path ks
    → with_ranges path ranges ≡ conjunct_of (answered (Atom.OneOf path ks))
some_ranges path ks ranges h =
    let p = some_single (are_single ks) (map (only path) ks) ranges (Atom.OneOf path ks) (sym (all_ranges path ks) ∙ sym h) in
    ap (with_ranges path) (sym p.1) ∙ ap (λ b. conjunct_of (where_so b (Atom.OneOf path ks))) (sym p.0)

pub no_ranges : (path : List Step) (ks : List Value) → None ≡ ranges_in path ks
    → conjunct_of None ≡ conjunct_of (answered (Atom.OneOf path ks))
no_ranges path ks h =
    ap (λ b. conjunct_of (where_so b (Atom.OneOf path ks)))
    (sym (none_single (are_single ks) (map (only path) ks) (sym (all_ranges path ks) ∙ sym h)))
