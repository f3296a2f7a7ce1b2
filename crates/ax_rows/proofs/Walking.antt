-- Taking the rows of a list's elements one after another takes all of them.
use Rattle.std.proofs.Common.{◌≡◌, ℕ, ◌+◌, ◌<◌, ◌≤◌, List, [], ◌∷◌, ◌++◌, length, get_or, drop, suc, sym, ap, ◌∙◌, subst, arith}
use Rattle.std.specs.List.{flat_map}
use Rattle.std.proofs.Math.Seq.{drop-cons}
use Rattle.std.proofs.lemmas.List.{drop_all}
use Rattle.ax_tree.specs.declared.tree.Tree.{Tree}
use Rattle.ax_mean.specs.declared.query.FromItem.{FromItem}
use Rattle.ax_mean.specs.declared.value.Value.TheVariants.{Defined}
use Rattle.ax_mean.specs.Meaning.{Env}
use Rattle.ax_mean.specs.Rows.{Bound, Choice, elements_from, rows_from, with_choice}

-- the rows for what one choice binds
abbrev pub grown : List FromItem → List ℕ → Env → List ℕ → Choice → List Bound
grown rest alias env place choice =
    rows_from rest (with_choice alias (record { env = env; place = place }) choice)

abbrev pub rows_after : List FromItem → List ℕ → Env → List ℕ → ℕ → List Tree → List Bound
rows_after rest alias env place at trees =
    flat_map (grown rest alias env place) (elements_from at (drop at trees))

elements_next : (at : ℕ) (trees : List Tree) (tree : Tree) → at < length trees → tree ≡ get_or trees at tree
    → elements_from at (drop at trees)
    ≡ record { positions = at ∷ []; tree = tree } ∷ elements_from (at + 1) (drop (at + 1) trees)
elements_next at trees tree low is =
    let whole : drop at trees ≡ get_or trees at tree ∷ drop (suc at) trees = drop-cons trees at tree low in
    let next : suc at ≡ at + 1 = omega arith in
    ap (elements_from at) (whole
    ∙ ap (λ t. t ∷ drop (suc at) trees) (sym is) ∙ ap (λ (n : ℕ). tree ∷ drop n trees) next)

module _ {S : Type 0} (Took : S → List Bound → S → Type 0) where
  pub goes_on : ((a b c : S) (xs ys : List Bound) → Took a xs b → Took b ys c → Took a (xs ++ ys) c)
      → (rest : List FromItem) (alias : List ℕ) (env env_now : Env) (place place_now : List ℕ)
      (trees : List Tree) (tree : Tree) (at : ℕ) (a b after : S)
      → env_now ≡ env → place_now ≡ place → at < length trees → tree ≡ get_or trees at tree
      → Took a (rows_from rest (record { env = env_now ++ (alias, Defined tree) ∷ []; place = place_now ++ at ∷ [] })) b
      → Took b (rows_after rest alias env place (at + 1) trees) after
      → Took a (rows_after rest alias env place at trees) after
  goes_on both rest alias env env_now place place_now trees tree at a b after e p low is first others =
      let here : rows_from rest (record { env = env_now ++ (alias, Defined tree) ∷ []; place = place_now ++ at ∷ [] })
      ≡ grown rest alias env place (record { positions = at ∷ []; tree = tree }) = λ i.
      rows_from rest (record { env = e i ++ (alias, Defined tree) ∷ []; place = p i ++ at ∷ [] }) in
      let took : Took a (grown rest alias env place (record { positions = at ∷ []; tree = tree })) b =
      subst (λ (xs : List Bound). Took a xs b) here first in
      subst (λ (cs : List Choice). Took a (flat_map (grown rest alias env place) cs) after)
      (sym (elements_next at trees tree low is))
      (both a b after (grown rest alias env place (record { positions = at ∷ []; tree = tree }))
      (rows_after rest alias env place (at + 1) trees) took others)

  pub goes_out : ((a : S) → Took a [] a)
      → (rest : List FromItem) (alias : List ℕ) (env : Env) (place : List ℕ) (trees : List Tree) (at : ℕ) (a : S)
      → length trees ≤ at → Took a (rows_after rest alias env place at trees) a
  goes_out none rest alias env place trees at a high =
      let out : drop at trees ≡ [] = drop_all at trees high in
      subst (λ (ts : List Tree). Took a (flat_map (grown rest alias env place) (elements_from at ts)) a)
      (sym out) (none a)
