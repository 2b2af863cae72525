-- Rvalues that begin with no path are told from paths by two tokens.
use Rattle.std.proofs.Common.{ℕ, Bool, true, false, List, [], ◌∷◌, codes, None, refl}
use Rattle.grammar_words.specs.Grammar.{Part, Either}
use Rattle.grammar_words.specs.Reading.{Reader, joined, made, pick}
use Rattle.grammar_words.specs.Classes.{inside, tok, past, Ended, ended, Trailed, trailed, perhaps}
use Rattle.grammar_words.proofs.Ready.{Ready, wider-ready}
use Rattle.grammar_words.proofs.ReadyJoin.{then-ready, either-ready, left_short}
use Rattle.grammar_words.proofs.ReadyWords.{past-ready, ended-ready, perhaps-ready}
use Rattle.grammar_words.proofs.Trailing.{trailed-ready}
use Rattle.grammar_words.proofs.Fork.{Moves, Seen, moves-tok, moves-made, moves-joined, moves-left, moves-right, moves-both, moves-fork, fork-ready}
use Rattle.grammar_words.proofs.Seen.{seen-alone, seen-before, seen-made, seen-either, seen-then}
use Rattle.mir_ir.specs.declared.tree.Operand.{Operand}
use Rattle.mir_grammar.specs.Lexemes.{Lexeme, class_of, sign}
use Rattle.mir_grammar.specs.Types.{Family, Readers, AnyType, run}
use Rattle.mir_grammar.specs.Places.{Placed, place_firsts}
use Rattle.mir_grammar.specs.Values.{Limited, Value, to_copy, to_move, to_const, Marked, marks, operand_firsts, to_used, Used, to_binary, binaries, to_unary, to_measured, to_sized, to_tuple_of, TupleOf, FormedValue, constant_at, marked_at, operand_at, cast_to_at, used_at, binary_at, unaries, measures, sizes, unary_at, measured_at, sized_at, tuple_of_at, operator_at, tuple_seconds, used_or_tuple_at, formed_value_at, formed_value_firsts}
use Rattle.mir_grammar.proofs.TypeReady.{near, AllReady}
use Rattle.mir_grammar.proofs.ValueReady.{PlaceKit, constant_ready, marked_ready, operand_ready, used_ready, cast_ready, operator_ready, reference_ready, array_of_ready, tuple_of_ready}

abbrev pub TupleInner : Family → Part Lexeme Placed → Part Lexeme (List (Limited Operand) × Bool)
TupleInner T P = Ended class_of (Trailed class_of (9 ∷ []) (Marked T P)) (2 ∷ [])

abbrev pub tuple_inner_at : ℕ → Readers → Reader Lexeme Placed → Reader Lexeme (List (Limited Operand) × Bool)
tuple_inner_at m t p = ended class_of (trailed class_of marks (9 ∷ []) (marked_at m t p) m) (2 ∷ [])

pub tuple_inner_ready : {m : ℕ} {x : List Lexeme} {T U : Family} {S : List Lexeme → Family} {t u : Readers} {R W : Part Lexeme Placed} {H : List Lexeme → Part Lexeme Placed} {p w : Reader Lexeme Placed} → AllReady m x T U S t u → PlaceKit m x R W H p w
    → Ready class_of m (near [] tuple_seconds) x (TupleInner T R) (TupleInner U W) (λ y. TupleInner (S y) (H y)) (tuple_inner_at m t p) (tuple_inner_at m u w)
unfolding class_of
tuple_inner_ready {m} {x} i r = wider-ready _ (ended-ready (2 ∷ []) (sign (codes ")")) refl (trailed-ready marks (9 ∷ []) (sign (codes ",")) refl (marked_ready i r) refl) refl) refl

pub tuple_moves : {m : ℕ} {x : List Lexeme} {T U : Family} {S : List Lexeme → Family} {t u : Readers} {R W : Part Lexeme Placed} {H : List Lexeme → Part Lexeme Placed} {p w : Reader Lexeme Placed} → AllReady m x T U S t u → PlaceKit m x R W H p w → Moves class_of (1 ∷ []) (tuple_of_at m t p)
unfolding class_of
tuple_moves {m} {x} {T} {U} {S} {t} {u} {R} {W} {H} {p} {w} i r = (moves-made class_of (1 ∷ []) to_tuple_of _ (moves-made class_of (1 ∷ []) (λ v. v.1) _ (moves-joined class_of (1 ∷ []) (tok class_of (1 ∷ [])) (tuple_inner_at m t p) (moves-tok class_of (1 ∷ []) (1 ∷ []) refl) (left_short (tuple_inner_ready i r).laws))))

pub operand_moves : {m : ℕ} {x : List Lexeme} {T U : Family} {S : List Lexeme → Family} {t u : Readers} {R W : Part Lexeme Placed} {H : List Lexeme → Part Lexeme Placed} {p w : Reader Lexeme Placed} → AllReady m x T U S t u → PlaceKit m x R W H p w → Moves class_of (1 ∷ []) (operand_at m t p)
unfolding operand_at
operand_moves {m} {x} {T} {U} {S} {t} {u} {R} {W} {H} {p} {w} i r = moves-left class_of (1 ∷ []) place_firsts (made to_copy p) (marked_at m t p) refl (moves-made class_of (1 ∷ []) to_copy p r.moves)

pub used_moves : {m : ℕ} {x : List Lexeme} {T U : Family} {S : List Lexeme → Family} {t u : Readers} {R W : Part Lexeme Placed} {H : List Lexeme → Part Lexeme Placed} {p w : Reader Lexeme Placed} → AllReady m x T U S t u → PlaceKit m x R W H p w → Moves class_of (1 ∷ []) (used_at m t p)
unfolding class_of
used_moves {m} {x} {T} {U} {S} {t} {u} {R} {W} {H} {p} {w} i r = moves-made class_of (1 ∷ []) to_used _ (moves-joined class_of (1 ∷ []) (operand_at m t p) (perhaps class_of (118 ∷ []) None (cast_to_at t)) (operand_moves i r) (left_short (perhaps-ready {c = class_of} {m = m} {x = x} (118 ∷ []) None (cast_ready i) refl).laws))

pub marked_moves : {m : ℕ} {x : List Lexeme} {T U : Family} {S : List Lexeme → Family} {t u : Readers} {R W : Part Lexeme Placed} {H : List Lexeme → Part Lexeme Placed} {p w : Reader Lexeme Placed} → AllReady m x T U S t u → PlaceKit m x R W H p w → Moves class_of (116 ∷ 120 ∷ 121 ∷ []) (marked_at m t p)
unfolding class_of
marked_moves {m} {x} {T} {U} {S} {t} {u} {R} {W} {H} {p} {w} i r = moves-both class_of (116 ∷ []) (120 ∷ 121 ∷ []) (marked_at m t p)
    (moves-right class_of (116 ∷ []) (120 ∷ []) _ _ refl (moves-right class_of (116 ∷ []) (121 ∷ []) _ _ refl (moves-made class_of (116 ∷ []) to_const _ (moves-made class_of (116 ∷ []) (λ v. v.1) _ (moves-joined class_of (116 ∷ []) (tok class_of (116 ∷ [])) (constant_at m t) (moves-tok class_of (116 ∷ []) (116 ∷ []) refl) (left_short (constant_ready i).laws))))))
    (moves-both class_of (120 ∷ []) (121 ∷ []) (marked_at m t p)
    (moves-left class_of (120 ∷ []) (120 ∷ []) _ _ refl (moves-made class_of (120 ∷ []) to_copy _ (moves-made class_of (120 ∷ []) (λ v. v.1) _ (moves-joined class_of (120 ∷ []) (tok class_of (120 ∷ [])) p (moves-tok class_of (120 ∷ []) (120 ∷ []) refl) (left_short r.ready.laws)))))
    (moves-right class_of (121 ∷ []) (120 ∷ []) _ _ refl (moves-left class_of (121 ∷ []) (121 ∷ []) _ _ refl (moves-made class_of (121 ∷ []) to_move _ (moves-made class_of (121 ∷ []) (λ v. v.1) _ (moves-joined class_of (121 ∷ []) (tok class_of (121 ∷ [])) p (moves-tok class_of (121 ∷ []) (121 ∷ []) refl) (left_short r.ready.laws)))))))

pub marked_operand_moves : {m : ℕ} {x : List Lexeme} {T U : Family} {S : List Lexeme → Family} {t u : Readers} {R W : Part Lexeme Placed} {H : List Lexeme → Part Lexeme Placed} {p w : Reader Lexeme Placed} → AllReady m x T U S t u → PlaceKit m x R W H p w → Moves class_of (116 ∷ 120 ∷ 121 ∷ []) (operand_at m t p)
unfolding operand_at
marked_operand_moves {m} {x} {T} {U} {S} {t} {u} {R} {W} {H} {p} {w} i r = moves-right class_of (116 ∷ 120 ∷ 121 ∷ []) place_firsts (made to_copy p) (marked_at m t p) refl (marked_moves i r)

pub marked_used_moves : {m : ℕ} {x : List Lexeme} {T U : Family} {S : List Lexeme → Family} {t u : Readers} {R W : Part Lexeme Placed} {H : List Lexeme → Part Lexeme Placed} {p w : Reader Lexeme Placed} → AllReady m x T U S t u → PlaceKit m x R W H p w → Moves class_of (116 ∷ 120 ∷ 121 ∷ []) (used_at m t p)
unfolding class_of
marked_used_moves {m} {x} {T} {U} {S} {t} {u} {R} {W} {H} {p} {w} i r = moves-made class_of (116 ∷ 120 ∷ 121 ∷ []) to_used _ (moves-joined class_of (116 ∷ 120 ∷ 121 ∷ []) (operand_at m t p) (perhaps class_of (118 ∷ []) None (cast_to_at t)) (marked_operand_moves i r) (left_short (perhaps-ready {c = class_of} {m = m} {x = x} (118 ∷ []) None (cast_ready i) refl).laws))

used_seen : {m : ℕ} {x : List Lexeme} {T U : Family} {S : List Lexeme → Family} {t u : Readers} {R W : Part Lexeme Placed} {H : List Lexeme → Part Lexeme Placed} {p w : Reader Lexeme Placed} → AllReady m x T U S t u → PlaceKit m x R W H p w → (z : Lexeme → Bool) (y : List Lexeme) → Seen class_of operand_firsts (1 ∷ []) tuple_seconds z true (Used (S y) (H y))
used_seen {m} {x} i r z y = seen-made to_used (seen-then _ (seen-either (seen-made to_copy (r.seen y)) (seen-alone (near (3 ∷ 12 ∷ 7 ∷ []) marks) operand_firsts (1 ∷ []) tuple_seconds ((marked_ready i r).opens_holed y) refl)))

tuple_seen : {m : ℕ} {x : List Lexeme} {T U : Family} {S : List Lexeme → Family} {t u : Readers} {R W : Part Lexeme Placed} {H : List Lexeme → Part Lexeme Placed} {p w : Reader Lexeme Placed} → AllReady m x T U S t u → PlaceKit m x R W H p w → (z : Lexeme → Bool) (y : List Lexeme) → Seen class_of operand_firsts (1 ∷ []) tuple_seconds z false (TupleOf (S y) (H y))
tuple_seen {m} {x} i r z y = seen-made to_tuple_of (seen-made (λ v. v.1) (seen-before (near [] tuple_seconds) operand_firsts (1 ∷ []) tuple_seconds (1 ∷ []) ((tuple_inner_ready i r).opens_holed y) refl))

abbrev pub UsedOrTuple : Family → Part Lexeme Placed → Part Lexeme Value
UsedOrTuple T P = Either (Used T P) (TupleOf T P)

pub used_or_tuple_ready : {m : ℕ} {x : List Lexeme} {T U : Family} {S : List Lexeme → Family} {t u : Readers} {R W : Part Lexeme Placed} {H : List Lexeme → Part Lexeme Placed} {p w : Reader Lexeme Placed} → AllReady m x T U S t u → PlaceKit m x R W H p w
    → Ready class_of m (near (118 ∷ 3 ∷ 12 ∷ 7 ∷ []) operand_firsts) x (UsedOrTuple T R) (UsedOrTuple U W) (λ y. UsedOrTuple (S y) (H y)) (used_or_tuple_at m t p) (used_or_tuple_at m u w)
unfolding used_or_tuple_at
used_or_tuple_ready {m} {x} i r = wider-ready _ (fork-ready operand_firsts (1 ∷ []) tuple_seconds (used_ready i r) (tuple_of_ready i r) refl (used_moves i r) (tuple_moves i r) (used_seen i r _) (tuple_seen i r _)) refl

pub formed_value_ready : {m : ℕ} {x : List Lexeme} {T U : Family} {S : List Lexeme → Family} {t u : Readers} {R W : Part Lexeme Placed} {H : List Lexeme → Part Lexeme Placed} {p w : Reader Lexeme Placed} → AllReady m x T U S t u → PlaceKit m x R W H p w
    → Ready class_of m (near (118 ∷ 3 ∷ 12 ∷ 7 ∷ []) formed_value_firsts) x (FormedValue T R) (FormedValue U W) (λ y. FormedValue (S y) (H y)) (formed_value_at m t p) (formed_value_at m u w)
unfolding class_of
formed_value_ready {m} {x} i r = wider-ready _ (either-ready operand_firsts (used_or_tuple_ready i r) (either-ready (run 124 27) (operator_ready i r) (either-ready (15 ∷ []) (reference_ready i r) (array_of_ready i r) refl) refl) refl) refl

pub operator_moves : {m : ℕ} {x : List Lexeme} {T U : Family} {S : List Lexeme → Family} {t u : Readers} {R W : Part Lexeme Placed} {H : List Lexeme → Part Lexeme Placed} {p w : Reader Lexeme Placed} → AllReady m x T U S t u → PlaceKit m x R W H p w → Moves class_of (run 124 27) (operator_at m t p)
unfolding class_of
operator_moves {m} {x} {T} {U} {S} {t} {u} {R} {W} {H} {p} {w} i r = moves-both class_of binaries (run 144 7) (operator_at m t p)
    (moves-left class_of binaries binaries (binary_at m t p) (pick (inside class_of unaries) (unary_at m t p) (pick (inside class_of measures) (measured_at p) (sized_at t))) refl (moves-made class_of binaries to_binary (joined (tok class_of binaries) (past class_of (1 ∷ []) (joined (operand_at m t p) (past class_of (9 ∷ []) (ended class_of (operand_at m t p) (2 ∷ [])))))) (moves-joined class_of binaries (tok class_of binaries) (past class_of (1 ∷ []) (joined (operand_at m t p) (past class_of (9 ∷ []) (ended class_of (operand_at m t p) (2 ∷ []))))) (moves-tok class_of binaries binaries refl) (left_short (past-ready {c = class_of} {m = m} {x = x} (1 ∷ []) (sign (codes "(")) refl (then-ready (operand_ready i r) (past-ready {c = class_of} {m = m} {x = x} (9 ∷ []) (sign (codes ",")) refl (ended-ready {c = class_of} {m = m} {x = x} (2 ∷ []) (sign (codes ")")) refl (operand_ready i r) refl) refl) refl) refl).laws))))
    (moves-right class_of (run 144 7) binaries (binary_at m t p) (pick (inside class_of unaries) (unary_at m t p) (pick (inside class_of measures) (measured_at p) (sized_at t))) refl (moves-both class_of unaries (run 147 4) (pick (inside class_of unaries) (unary_at m t p) (pick (inside class_of measures) (measured_at p) (sized_at t)))
    (moves-left class_of unaries unaries (unary_at m t p) (pick (inside class_of measures) (measured_at p) (sized_at t)) refl (moves-made class_of unaries to_unary (joined (tok class_of unaries) (past class_of (1 ∷ []) (ended class_of (operand_at m t p) (2 ∷ [])))) (moves-joined class_of unaries (tok class_of unaries) (past class_of (1 ∷ []) (ended class_of (operand_at m t p) (2 ∷ []))) (moves-tok class_of unaries unaries refl) (left_short (past-ready {c = class_of} {m = m} {x = x} (1 ∷ []) (sign (codes "(")) refl (ended-ready {c = class_of} {m = m} {x = x} (2 ∷ []) (sign (codes ")")) refl (operand_ready i r) refl) refl).laws))))
    (moves-right class_of (run 147 4) unaries (unary_at m t p) (pick (inside class_of measures) (measured_at p) (sized_at t)) refl (moves-both class_of measures sizes (pick (inside class_of measures) (measured_at p) (sized_at t))
    (moves-left class_of measures measures (measured_at p) (sized_at t) refl (moves-made class_of measures to_measured (joined (tok class_of measures) (past class_of (1 ∷ []) (ended class_of p (2 ∷ [])))) (moves-joined class_of measures (tok class_of measures) (past class_of (1 ∷ []) (ended class_of p (2 ∷ []))) (moves-tok class_of measures measures refl) (left_short (past-ready {c = class_of} {m = m} {x = x} (1 ∷ []) (sign (codes "(")) refl (ended-ready {c = class_of} {m = m} {x = x} (2 ∷ []) (sign (codes ")")) refl r.ready refl) refl).laws))))
    (moves-right class_of sizes measures (measured_at p) (sized_at t) refl (moves-made class_of sizes to_sized (joined (tok class_of sizes) (past class_of (1 ∷ []) (ended class_of (t AnyType) (2 ∷ [])))) (moves-joined class_of sizes (tok class_of sizes) (past class_of (1 ∷ []) (ended class_of (t AnyType) (2 ∷ []))) (moves-tok class_of sizes sizes refl) (left_short (past-ready {c = class_of} {m = m} {x = x} (1 ∷ []) (sign (codes "(")) refl (ended-ready {c = class_of} {m = m} {x = x} (2 ∷ []) (sign (codes ")")) refl (i AnyType) refl) refl).laws))))))))

pub formed_moves : {m : ℕ} {x : List Lexeme} {T U : Family} {S : List Lexeme → Family} {t u : Readers} {R W : Part Lexeme Placed} {H : List Lexeme → Part Lexeme Placed} {p w : Reader Lexeme Placed} → AllReady m x T U S t u → PlaceKit m x R W H p w → Moves class_of (116 ∷ 120 ∷ 121 ∷ run 124 27) (formed_value_at m t p)
unfolding used_or_tuple_at
formed_moves {m} {x} {T} {U} {S} {t} {u} {R} {W} {H} {p} {w} i r = moves-both class_of (116 ∷ 120 ∷ 121 ∷ []) (run 124 27) (formed_value_at m t p)
    (moves-left class_of (116 ∷ 120 ∷ 121 ∷ []) operand_firsts _ _ refl (moves-fork class_of (116 ∷ 120 ∷ 121 ∷ []) operand_firsts (1 ∷ []) tuple_seconds (used_at m t p) (tuple_of_at m t p) refl refl (marked_used_moves i r)))
    (moves-right class_of (run 124 27) operand_firsts _ _ refl (moves-left class_of (run 124 27) (run 124 27) _ _ refl (operator_moves i r)))
