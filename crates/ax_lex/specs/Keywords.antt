-- The keywords, and which of them a word is. Those of SQL (ISO/IEC 9075) that queries of Azure
-- Cosmos DB for NoSQL have.
use Rattle.std.specs.Prelude.{ℕ, List, [], ◌∷◌, Option, codes, length, ◌==◌}
use Rattle.std.specs.List.{filter, find}
use Rattle.std.specs.Str.{str_eq_ignore_ascii_case}
use Rattle.ax_lex.specs.declared.keyword.Keyword.{Keyword}
use Rattle.ax_lex.specs.declared.keyword.Keyword.TheVariants as keyword

abbrev pub spelling : Keyword → List ℕ
spelling keyword.Select = codes "SELECT"
spelling keyword.Top = codes "TOP"
spelling keyword.Distinct = codes "DISTINCT"
spelling keyword.Value = codes "VALUE"
spelling keyword.As = codes "AS"
spelling keyword.From = codes "FROM"
spelling keyword.Join = codes "JOIN"
spelling keyword.In = codes "IN"
spelling keyword.Where = codes "WHERE"
spelling keyword.Order = codes "ORDER"
spelling keyword.By = codes "BY"
spelling keyword.Asc = codes "ASC"
spelling keyword.Desc = codes "DESC"
spelling keyword.Group = codes "GROUP"
spelling keyword.Offset = codes "OFFSET"
spelling keyword.Limit = codes "LIMIT"
spelling keyword.And = codes "AND"
spelling keyword.Or = codes "OR"
spelling keyword.Not = codes "NOT"
spelling keyword.Between = codes "BETWEEN"
spelling keyword.Like = codes "LIKE"
spelling keyword.Null = codes "NULL"
spelling keyword.True = codes "TRUE"
spelling keyword.False = codes "FALSE"
spelling keyword.Undefined = codes "UNDEFINED"

abbrev pub keywords : List Keyword
keywords =
    keyword.Select ∷ keyword.Top ∷ keyword.Distinct ∷ keyword.Value ∷ keyword.As ∷
    keyword.From ∷ keyword.Join ∷ keyword.In ∷ keyword.Where ∷ keyword.Order ∷ keyword.By ∷
    keyword.Asc ∷ keyword.Desc ∷ keyword.Group ∷ keyword.Offset ∷ keyword.Limit ∷
    keyword.And ∷ keyword.Or ∷ keyword.Not ∷ keyword.Between ∷ keyword.Like ∷ keyword.Null ∷
    keyword.True ∷ keyword.False ∷ keyword.Undefined ∷ []

-- the keyword that a word is, in letters of any case
abbrev pub keyword_of : List ℕ → Option Keyword
keyword_of word = find (λ keyword. str_eq_ignore_ascii_case word (spelling keyword)) keywords

-- the keywords of so many letters
abbrev pub keywords_of : ℕ → List Keyword
keywords_of letters = filter (λ keyword. length (spelling keyword) == letters) keywords
