-- The readings of the grammar, each named apart, over those of one level less (t) and with m turns for each list.
use Rattle.std.specs.Prelude.{ℕ, Bool, true, false, List, [], ◌∷◌, ◌++◌}
use Rattle.grammar_words.specs.Reading.{Outcome, Reader, after, nothing, turned, made, choose, joined, pick, many, cons}
use Rattle.grammar_words.specs.Classes.{inside, tok, past, ended, perhaps, lead, trail, trailed, bare}
use Rattle.mir_grammar.specs.Lexemes.{Lexeme, class_of}
use Rattle.mir_grammar.specs.declared.named.Named.{Named}
use Rattle.mir_grammar.specs.declared.named.Argument.{Argument}
use Rattle.mir_grammar.specs.declared.named.Argument.TheVariants.{TypeArgument}
use Rattle.mir_grammar.specs.declared.named.Head.{Head}
use Rattle.mir_grammar.specs.declared.named.Step.{Step}
use Rattle.mir_grammar.specs.declared.named.Step.TheVariants.{StepArguments}
use Rattle.mir_grammar.specs.Names.{to_path, to_keyed_path, to_mut_path, to_qualified, named_head, word_head, impl_head, word_step, impl_step, written_argument, to_tuple}
use Rattle.mir_grammar.specs.Types.{Readers, AnyType, NotMut, BehindMut, Qualified, any_word, colons, type_names, type_words, path_words, path_words_but_mut, formed_firsts, type_firsts, plain_at}
use Rattle.type_reader.specs.Wrappers.{wrapped_at, dyn_end}

-- a type, or a number or a lifetime as it is written
unfoldable pub argument : Readers → Reader Lexeme Argument
argument t = pick (inside class_of (35 ∷ 42 ∷ [])) (made written_argument (tok class_of (35 ∷ 42 ∷ []))) (made TypeArgument (t AnyType))

-- a comma and an argument
abbrev pub next_argument : Readers → Reader Lexeme Argument
next_argument t = past class_of (9 ∷ []) (argument t)

-- commas and arguments, as many as there are
unfoldable pub more_arguments : ℕ → Readers → Reader Lexeme (List Argument)
more_arguments m t = many (inside class_of (9 ∷ [])) (next_argument t) m

-- arguments with commas between them, or none
unfoldable pub argument_list : ℕ → Readers → Reader Lexeme (List Argument)
argument_list m t = perhaps class_of (35 ∷ 42 ∷ type_firsts) [] (made cons (joined (argument t) (more_arguments m t)))

-- arguments in angle brackets
unfoldable pub arguments : ℕ → Readers → Reader Lexeme (List Argument)
arguments m t = past class_of (7 ∷ []) (ended class_of (argument_list m t) (8 ∷ []))

-- these as a step of a path
unfoldable pub arguments_step : ℕ → Readers → Reader Lexeme Step
arguments_step m t = made StepArguments (arguments m t)

-- a word, an impl segment or arguments
unfoldable pub segment : ℕ → Readers → Reader Lexeme Step
segment m t = pick (inside class_of any_word) (made word_step (tok class_of any_word)) (pick (inside class_of (43 ∷ [])) (made impl_step (tok class_of (43 ∷ []))) (arguments_step m t))

-- :: and a segment
unfoldable pub named_step : ℕ → Readers → Reader Lexeme Step
named_step m t = past class_of colons (segment m t)

-- a segment behind ::, or arguments
unfoldable pub path_step : ℕ → Readers → Reader Lexeme Step
path_step m t = pick (inside class_of colons) (named_step m t) (arguments_step m t)

-- steps, as many as there are
unfoldable pub path_steps : ℕ → Readers → Reader Lexeme (List Step)
path_steps m t = many (inside class_of (12 ∷ 7 ∷ [])) (path_step m t) m

-- steps, of which the first begins with ::
unfoldable pub keyed_steps : ℕ → Readers → Reader Lexeme (List Step)
keyed_steps m t = made cons (joined (named_step m t) (path_steps m t))

-- one of these words, an impl segment or <T as P>
unfoldable pub free_head : List ℕ → Readers → Reader Lexeme Head
free_head words t = pick (inside class_of words) (made word_head (tok class_of words)) (pick (inside class_of (43 ∷ [])) (made impl_head (tok class_of (43 ∷ []))) (made named_head (t Qualified)))

-- a path with such a head
unfoldable pub free_path : ℕ → List ℕ → Readers → Reader Lexeme Named
free_path m words t = made to_path (joined (free_head words t) (path_steps m t))

-- one of these words, and steps of which the first begins with ::
unfoldable pub keyed_path : ℕ → List ℕ → Readers → Reader Lexeme Named
keyed_path m keys t = made to_keyed_path (joined (tok class_of keys) (keyed_steps m t))

-- a path where the words `keys` begin one only before ::
unfoldable pub path_from : ℕ → List ℕ → List ℕ → Readers → Reader Lexeme Named
path_from m keys words t = pick (inside class_of keys) (keyed_path m keys t) (free_path m words t)

-- as P>
unfoldable pub qualifier : ℕ → Readers → Reader Lexeme Named
qualifier m t = past class_of (118 ∷ []) (ended class_of (free_path m any_word t) (8 ∷ []))

-- <T as P>
unfoldable pub qualified : ℕ → Readers → Reader Lexeme Named
qualified m t = made to_qualified (joined (tok class_of (7 ∷ [])) (joined (t AnyType) (qualifier m t)))

-- the types of a tuple, and whether a comma stands behind them
unfoldable pub tuple_items : ℕ → Readers → Reader Lexeme (List Named × Bool)
tuple_items m t = trailed class_of type_firsts (9 ∷ []) (t AnyType) m

-- the end of a tuple behind these items: a comma alone may stand where there is none
unfoldable pub item_end : List Named → Reader Lexeme (List Named × Bool)
item_end [] = pick (inside class_of (9 ∷ [])) (made (λ t. ([], true)) (tok class_of (9 ∷ []))) (nothing ([], false))
item_end (n ∷ items) = nothing ([], true)

-- items before those that are read
abbrev pub with_items : List Named → Outcome Lexeme (List Named × Bool) → Outcome Lexeme (List Named × Bool)
with_items items o = turned (λ v. (items ++ v.0, v.1)) o

-- what stands behind these items and a comma, or at the begin
unfoldable pub items_from : ℕ → Readers → List Named → Reader Lexeme (List Named × Bool)
items_from n t items = pick (inside class_of type_firsts) (made lead (joined (t AnyType) (trail class_of type_firsts (9 ∷ []) (t AnyType) n))) (item_end items)

-- a tuple, or a type in brackets
unfoldable pub tuple : ℕ → Readers → Reader Lexeme Named
tuple m t = made to_tuple (past class_of (1 ∷ []) (ended class_of (tuple_items m t) (2 ∷ [])))

-- dyn and a path
unfoldable pub dyn_type : ℕ → Readers → Reader Lexeme Named
dyn_type m t = past class_of (115 ∷ []) (λ ts. after dyn_end (free_path m any_word t ts))

-- a type that is no path
unfoldable pub formed : ℕ → Readers → Reader Lexeme Named
formed m t = pick (inside class_of (17 ∷ type_names)) plain_at (pick (inside class_of (1 ∷ [])) (tuple m t) (pick (inside class_of (3 ∷ 15 ∷ 16 ∷ [])) (wrapped_at t) (dyn_type m t)))

-- a type, or a path that begins with one of these words
unfoldable pub any_type : ℕ → List ℕ → Readers → Reader Lexeme Named
any_type m words t = choose (bare class_of formed_firsts type_words colons) (formed m t) (path_from m type_words words t)

-- what is wanted, where its first token is known to come
unfoldable pub body : ℕ → Readers → Readers
body m t AnyType = any_type m path_words t
body m t NotMut = any_type m path_words_but_mut t
body m t BehindMut = made to_mut_path (keyed_steps m t)
body m t Qualified = qualified m t
