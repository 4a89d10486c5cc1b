-- Which limit a line of a model's text passes, and how it is told.
use Rattle.std.specs.Prelude.{◌≡◌, ◌⊎◌, ℕ, ◌+◌, ◌<◌, ◌≤◌, Bool, true, false, not, ◌||◌, ◌&&◌, ◌==◌}
use Rattle.std.specs.Prelude.{List, [], ◌∷◌, ◌++◌, codes, count_by, drop, if◌then◌else◌, nat_le, ⊤}
use Rattle.std.specs.Prelude.{IfSome, Option, None, Some}
use Rattle.std.specs.List.{list_any}
use Rattle.bip_model.specs.Naming.{same_text}
use Rattle.bip_model.specs.Texts.{numbered_lines}
use Rattle.bip_explain.specs.Declarations.{begins_component, declares_inner}
use Rattle.bip_explain.specs.Explanations.{placed_parts}
use Rattle.bip_explain.specs.Placed.{IsPlacedOn, said_words}
use Rattle.bip_explain.specs.Words.{is_relation, is_sign, point}
use Rattle.bip_explain.specs.declared.limits.Counted.{Counted}
use Rattle.bip_explain.specs.declared.limits.LimitReason.{LimitReason}
use Rattle.bip_explain.specs.declared.limits.LimitReason.TheVariants.{Word, Line}

-- how many lines may begin with a word, and how it is told; none of a word without a limit
abbrev pub limit_of : List ℕ → Option (ℕ × List ℕ)
limit_of keyword =
    if same_text keyword (codes "component")
    then Some (64, codes "a model has at most 64 components")
    else (if same_text keyword (codes "var")
    then Some (8, codes "a component has at most 8 variables")
    else (if same_text keyword (codes "loc")
    then Some (64, codes "a component has at most 64 locations")
    else (if same_text keyword (codes "port")
    then Some (16, codes "a component has at most 16 ports")
    else (if same_text keyword (codes "trans")
    then Some (256, codes "a component has at most 256 transitions")
    else (if same_text keyword (codes "interaction")
    then Some (128, codes "a model has at most 128 interactions")
    else (if same_text keyword (codes "class")
    then Some (32, codes "a model has at most 32 classes")
    else None))))))

-- words begin so
abbrev pub begins_so : List ℕ → List (List ℕ) → Bool
begins_so keyword [] = false
begins_so keyword (first ∷ rest) = same_text first keyword

-- lines that begin with a word are counted in each component by themselves
abbrev pub is_of_component : List ℕ → Bool
is_of_component keyword = declares_inner keyword || same_text keyword (codes "trans")

-- how many are counted behind a line of these words
abbrev pub counted_behind : List ℕ → List (List ℕ) → ℕ → ℕ
counted_behind keyword ws count =
    if is_of_component keyword && begins_component ws then 0
    else (if begins_so keyword ws then count + 1 else count)

-- how many are counted in front of a line, of lines that have their numbers
abbrev pub counted_to : List ℕ → ℕ → ℕ → List (ℕ × List ℕ) → ℕ
counted_to keyword line count [] = count
counted_to keyword line count ((n, bytes) ∷ rest) =
    if nat_le line n then count
    else counted_to keyword line (counted_behind keyword (said_words bytes) count) rest

-- how many lines in front of one begin with a word: those of a component behind the last one that
-- begins one
abbrev pub lines_so : List ℕ → ℕ → List ℕ → ℕ
lines_so text number keyword = counted_to keyword number 0 (numbered_lines text)

-- a word that begins a guard, or a list of assignments
abbrev pub begins_list : List ℕ → Bool
begins_list word = same_text word (codes "when") || same_text word (codes "do")

-- behind these, the first words of an interaction's line, a word names a participant: neither a
-- guard nor assignments are begun behind the interaction's name
abbrev pub are_head : List (List ℕ) → Bool
are_head front = not (list_any begins_list (drop 2 front))

-- a word that parts comparisons, or assignments
abbrev pub parts_list : List ℕ → Bool
parts_list word = same_text word (codes "and") || same_text word (codes ";")

-- a word in front of which a sum ends
abbrev pub ends_sum : List ℕ → Bool
ends_sum word =
    begins_list word || parts_list word || (is_relation word || same_text word (codes ":="))

-- whether a word has a point, as participants do
abbrev pub has_point : List ℕ → Bool
has_point word = list_any (λ byte. byte == point) word

-- a word is one participant too many behind words in front: 8 of them are some, and none begins a
-- list
abbrev pub IsNinth : List (List ℕ) → List ℕ → Type 0
IsNinth front word =
    (list_any begins_list front ≡ false) × (8 ≤ count_by has_point front)
    × (has_point word ≡ true)

-- a word is one mark too many in a list: behind the word that begins it 15 marks stand in front
abbrev pub IsLongList : List (List ℕ) → List ℕ → Type 0
IsLongList front word =
    (head : List (List ℕ)) × (list : List (List ℕ)) × (front ≡ head ++ list)
    × (list_any begins_list head ≡ true) × (list_any begins_list list ≡ false)
    × (15 ≤ count_by parts_list list) × (parts_list word ≡ true)

-- a word is one term too many in a sum of a list: 16 terms stand in front, with signs alone
abbrev pub IsLongSum : List (List ℕ) → List ℕ → Type 0
IsLongSum front word =
    (head : List (List ℕ)) × (sum : List (List ℕ)) × (front ≡ head ++ sum)
    × (list_any begins_list head ≡ true) × (list_any ends_sum sum ≡ false)
    × (16 ≤ count_by (λ w. not (is_sign w)) sum)
    × (ends_sum word ≡ false) × (is_sign word ≡ false)

-- a word passes a limit of lists behind the words in front of it
abbrev pub IsOverLimit : List (List ℕ) → List ℕ → List ℕ → Type 0
IsOverLimit front word limit =
    ((limit ≡ codes "an interaction has at most 8 participants") × IsNinth front word)
    ⊎ ((limit ≡ codes "a guard or a list has at most 16 parts") × IsLongList front word)
    ⊎ ((limit ≡ codes "a sum has at most 16 terms") × IsLongSum front word)

-- a reason is true of a line of a text: the word that is told stands at its column, and passes the
-- limit of lists that is told; or the limit is that of lines which begin as this one, and as many
-- stand in front of it
abbrev pub IsLimitReason : List ℕ → ℕ → List ℕ → LimitReason → Type 0
IsLimitReason text number line (Word placed limit) =
    (at : IsPlacedOn line placed) × IsOverLimit at.front placed.word.now limit.now
IsLimitReason text number line (Line limit) =
    (keyword : List ℕ) × (rest : List (List ℕ)) × (said_words line ≡ keyword ∷ rest)
    × ((most : ℕ) × (limit_of keyword ≡ Some (most, limit.now))
    × (most ≤ lines_so text number keyword))

-- how a reason is told
abbrev pub limit_parts : LimitReason → List (List ℕ)
limit_parts (Word placed limit) =
    placed_parts placed ++ codes " is one too many; " ∷ limit.now ∷ []
limit_parts (Line limit) = limit.now ∷ []

-- what is counted, with one word more
abbrev pub counted_on : Counted → List ℕ → Counted
counted_on c word =
    if begins_list word then record c { is_head = false; parts = 1; terms = 0 }
    else (if parts_list word
    then record c { parts = (if c.is_head then c.parts else c.parts + 1); terms = 0 }
    else (if is_relation word || same_text word (codes ":=") then record c { terms = 0 }
    else (if c.is_head then record c
    { participants = (if has_point word then c.participants + 1 else c.participants) }
    else (if is_sign word then c else record c { terms = c.terms + 1 }))))

-- no limit is passed
pub record AreFewYet (c : Counted) : Type 0 where
  pub participants : c.participants ≤ 8
  pub parts : c.parts ≤ 16
  pub terms : c.terms ≤ 16

-- no word passes a limit, of those behind what is counted
abbrev pub AreShort : Counted → List (List ℕ) → Type 0
AreShort c [] = ⊤
AreShort c (word ∷ rest) = AreFewYet (counted_on c word) × AreShort (counted_on c word) rest

-- nothing is counted yet
abbrev pub none_counted : Counted
none_counted = record { is_head = true; participants = 0; parts = 0; terms = 0 }

-- a line that begins so may have a guard and a list of assignments
abbrev pub has_lists : List ℕ → Bool
has_lists keyword =
    same_text keyword (codes "trans") || same_text keyword (codes "interaction")

-- fewer lines stand in front of one than its limit is, if it has one
abbrev pub AreFewLines : List ℕ → ℕ → List ℕ → Type 0
AreFewLines text number keyword =
    IfSome (limit_of keyword) (λ limit. lines_so text number keyword < limit.0)

-- words of a line pass no limit: neither of lists, nor of such lines
abbrev pub AreWithin : List ℕ → ℕ → List (List ℕ) → Type 0
AreWithin text number [] = ⊤
AreWithin text number (keyword ∷ rest) =
    AreFewLines text number keyword × (has_lists keyword ≡ true → AreShort none_counted rest)

-- What contracts of private functions say.

-- a limit is passed
abbrev pub IsOver : Counted → List ℕ → Type 0
IsOver c limit =
    ((8 < c.participants) × (limit ≡ codes "an interaction has at most 8 participants"))
    ⊎ ((16 < c.parts) × (limit ≡ codes "a guard or a list has at most 16 parts"))
    ⊎ ((16 < c.terms) × (limit ≡ codes "a sum has at most 16 terms"))
