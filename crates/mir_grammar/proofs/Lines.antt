-- The lines that are read are the statements and the terminator of a block.
use Rattle.std.proofs.Common.{◌≡◌, inl, inr, List, [], ◌∷◌, Option, Some, None, refl, subst, ap}
use Rattle.grammar_words.specs.Grammar.{Part, Either, Each, Next, More, Last, Until}
use Rattle.grammar_words.specs.Classes.{Tok, Past, Ended}
use Rattle.grammar_words.proofs.Spelled.{Within}
use Rattle.grammar_words.proofs.Until.{Lines}
use Rattle.mir_ir.specs.declared.tree.NamedOperand.{NamedOperand}
use Rattle.mir_ir.specs.declared.tree.Operand.{Operand}
use Rattle.mir_grammar.specs.Lexemes.{Lexeme, class_of}
use Rattle.mir_grammar.specs.Names.{Named}
use Rattle.mir_grammar.specs.Types.{Family}
use Rattle.mir_grammar.specs.Places.{Placed}
use Rattle.mir_grammar.specs.Values.{Limited, Value, Operands, RvalueOf, ValuePath, Fields, to_path_unit, to_path_tuple, to_path_fields}
use Rattle.mir_grammar.specs.Blocks.{Kept, EndingAt, Called, Target, Line, PathTail, UnitTail, FieldTail, OperandTail, to_path_line, to_assign_line, CallEnd, PathRest, ValueLine, LinePart, CleanupLine, StatementOf, TerminatorOf, Body, CleanupBody, Resumed, CallRest, ValueOf, LineOf, CleanupOf}

-- Values.

end_on : (T : Family) (P : Part Lexeme Placed) (ts mid last rest : List Lexeme) (n : Named) (os : List (Limited Operand)) (end : Option (Limited Target)) → ValuePath T ts n mid → Operands T P mid os last → CallEnd last end rest
    → ValueOf T P ts (to_path_line (n, OperandTail os end)) rest
end_on T P ts mid last rest n os end h o (inl c) = subst (λ q. ValueOf T P ts (to_path_line (n, OperandTail os q)) rest) c.1 ((to_path_tuple (n, os), c.0), refl, (last, inr (inr (inl ((n, os), refl, (mid, h, o)))), c.2))
end_on T P ts mid last rest n os end h o (inr c) = subst (λ q. ValueOf T P ts (to_path_line (n, OperandTail os q)) rest) c.1 (mid, h, (last, o, c.2))

field_on : (T : Family) (P : Part Lexeme Placed) (ts mid rest : List Lexeme) (n : Named) (fields : List (Limited NamedOperand)) → ValuePath T ts n mid → Ended class_of (Fields T P) (10 ∷ []) mid fields rest
    → ValueOf T P ts (More (to_path_fields (n, fields))) rest
field_on T P ts mid rest n fields h q = ((to_path_fields (n, fields), q.0.1), refl, (q.2.0, inr (inr (inr ((n, fields), refl, (mid, h, subst (λ f. Fields T P mid f q.2.0) q.1 q.2.1)))), q.2.2))

tail_on : (T : Family) (P : Part Lexeme Placed) (ts mid rest : List Lexeme) (n : Named) (tail : PathTail) → ValuePath T ts n mid → PathRest T P mid tail rest → ValueOf T P ts (to_path_line (n, tail)) rest
tail_on T P ts mid rest n tail h (inl r) = subst (λ q. ValueOf T P ts (to_path_line (n, q)) rest) r.1 ((to_path_unit n, r.0), refl, (mid, inr (inl (n, refl, h)), r.2))
tail_on T P ts mid rest n tail h (inr (inl r)) = subst (λ q. ValueOf T P ts (to_path_line (n, q)) rest) r.1 (field_on T P ts mid rest n r.0 h r.2)
tail_on T P ts mid rest n tail h (inr (inr r)) = subst (λ q. ValueOf T P ts (to_path_line (n, q)) rest) r.1 (end_on T P ts mid r.2.0 rest n r.0.0 r.0.1 h r.2.1 r.2.2)

value_on : (T : Family) (P : Part Lexeme Placed) → Within (ValueLine T P) (ValueOf T P)
value_on T P ts rest v (inl h) = subst (λ q. ValueOf T P ts q rest) h.1 (h.2.0, h.2.1, (h.2.2.0, inl h.2.2.1, h.2.2.2))
value_on T P ts rest v (inr h) = subst (λ q. ValueOf T P ts q rest) h.1 (tail_on T P ts h.2.0 rest h.0.0 h.0.1 h.2.1 h.2.2)

rvalue_off : (T : Family) (P : Part Lexeme Placed) (ts mid rest : List Lexeme) (v : Value) (t : Lexeme) → RvalueOf T P ts v mid → Tok class_of (10 ∷ []) mid t rest → ValueLine T P ts (More v) rest
rvalue_off T P ts mid rest v t (inl f) s = inl (v, refl, ((v, t), refl, (mid, f, s)))
rvalue_off T P ts mid rest v t (inr (inl h)) s = inr ((h.0, UnitTail), ap (λ q. More q) h.1, (mid, h.2, inl (t, refl, s)))
rvalue_off T P ts mid rest v t (inr (inr (inl h))) s = inr ((h.0.0, OperandTail h.0.1 None), ap (λ q. More q) h.1, (h.2.0, h.2.1, inr (inr ((h.0.1, None), refl, (mid, h.2.2, inl (t, refl, s))))))
rvalue_off T P ts mid rest v t (inr (inr (inr h))) s = inr ((h.0.0, FieldTail h.0.1), ap (λ q. More q) h.1, (h.2.0, h.2.1, inr (inl (h.0.1, refl, ((h.0.1, t), refl, (mid, h.2.2, s))))))

value_off : (T : Family) (P : Part Lexeme Placed) → Within (ValueOf T P) (ValueLine T P)
value_off T P ts rest (More v) h = rvalue_off T P ts h.2.0 rest v h.0.1 (subst (λ q. RvalueOf T P ts q h.2.0) h.1 h.2.1) h.2.2
value_off T P ts rest (Last (n, (os, target))) h = inr ((n, OperandTail os (Some target)), refl, (h.0, h.1, inr (inr ((os, Some target), refl, (h.2.0, h.2.1, inr (target, refl, h.2.2))))))

-- Lines.

assign_on : (T : Family) (P : Part Lexeme Placed) (ts mid rest : List Lexeme) (p : Placed) (v : Next Value Called) → P ts p mid → Past class_of (14 ∷ []) (ValueLine T P) mid v rest → LineOf T P ts (to_assign_line (p, v)) rest
assign_on T P ts mid rest p (More v) h q = inl ((p, v), refl, (mid, h, ((q.0.0, v), refl, (q.2.0, q.2.1, subst (λ u. ValueOf T P q.2.0 u rest) q.1 (value_on T P q.2.0 rest q.0.1 q.2.2)))))
assign_on T P ts mid rest p (Last c) h q = inl ((p, c), refl, (mid, h, ((q.0.0, c), refl, (q.2.0, q.2.1, subst (λ u. ValueOf T P q.2.0 u rest) q.1 (value_on T P q.2.0 rest q.0.1 q.2.2)))))

line_on : (T : Family) (P : Part Lexeme Placed) → Within (LinePart T P) (LineOf T P)
line_on T P ts rest l (inl h) = subst (λ q. LineOf T P ts q rest) h.1 (assign_on T P ts h.2.0 rest h.0.0 h.0.1 h.2.1 h.2.2)
line_on T P ts rest l (inr (inl h)) = subst (λ q. LineOf T P ts q rest) h.1 (inr h.2)
line_on T P ts rest l (inr (inr h)) = subst (λ q. LineOf T P ts q rest) h.1 (inr h.2)

statement_off : (T : Family) (P : Part Lexeme Placed) (ts rest : List Lexeme) (s : Kept) → StatementOf T P ts s rest → LinePart T P ts (More s) rest
statement_off T P ts rest s (inl h) = let q = h.2.2 in inl ((h.0.0, More h.0.1), ap (λ u. More u) h.1, (h.2.0, h.2.1, ((q.0.0, More h.0.1), refl, (q.2.0, q.2.1, value_off T P q.2.0 rest (More h.0.1) (subst (λ u. Ended class_of (RvalueOf T P) (10 ∷ []) q.2.0 u rest) q.1 q.2.2)))))
statement_off T P ts rest s (inr h) = inr (inl (s, refl, h))

terminator_off : (T : Family) (P : Part Lexeme Placed) (ts rest : List Lexeme) (t : EndingAt) → TerminatorOf T P ts t rest → LinePart T P ts (Last t) rest
terminator_off T P ts rest t (inl h) = let q = h.2.2 in inl ((h.0.0, Last h.0.1), ap (λ u. Last u) h.1, (h.2.0, h.2.1, ((q.0.0, Last h.0.1), refl, (q.2.0, q.2.1, value_off T P q.2.0 rest (Last h.0.1) (subst (λ u. CallRest T P q.2.0 u rest) q.1 q.2.2)))))
terminator_off T P ts rest t (inr h) = inr (inr (t, refl, h))

-- Blocks.

until_on : (T : Family) (P : Part Lexeme Placed) (ts rest : List Lexeme) (ss : List Kept) (t : EndingAt) → Until (LinePart T P) ts ss t rest → Body T P ts (ss, t) rest
until_on T P ts rest [] t h = (ts, refl, line_on T P ts rest (Last t) h)
until_on T P ts rest (s ∷ ss) t h = let b = until_on T P h.0 rest ss t h.2 in (b.0, (h.0, line_on T P ts h.0 (More s) h.1, b.1), b.2)

until_off : (T : Family) (P : Part Lexeme Placed) (ts mid rest : List Lexeme) (ss : List Kept) (t : EndingAt) → Each (StatementOf T P) ts ss mid → TerminatorOf T P mid t rest → Until (LinePart T P) ts ss t rest
until_off T P ts mid rest [] t h e = terminator_off T P ts rest t (subst (λ k. TerminatorOf T P k t rest) h e)
until_off T P ts mid rest (s ∷ ss) t h e = (h.0, statement_off T P ts h.0 s h.1, until_off T P h.0 mid rest ss t h.2 e)

pub body_on : (T : Family) (P : Part Lexeme Placed) → Within (Lines (LinePart T P)) (Body T P)
body_on T P ts rest v h = until_on T P ts rest v.0 v.1 h

pub body_off : (T : Family) (P : Part Lexeme Placed) → Within (Body T P) (Lines (LinePart T P))
body_off T P ts rest v h = until_off T P ts h.0 rest v.0 v.1 h.1 h.2

-- Cleanup blocks.

cleanup_on : (T : Family) (P : Part Lexeme Placed) → Within (CleanupLine T P) (CleanupOf T P)
cleanup_on T P ts rest (More s) (inl h) = absurd (let e = h.1 in cc)
cleanup_on T P ts rest (More s) (inr h) = line_on T P ts rest (More s) h
cleanup_on T P ts rest (Last t) (inl h) = inr (last_is T P ts rest t h.0 h.1 h.2)
  where
    last_is : (T : Family) (P : Part Lexeme Placed) (ts rest : List Lexeme) (t u : EndingAt) → ◌≡◌ {A = Line} (Last u) (Last t) → Resumed ts u rest → Resumed ts t rest
    last_is T P ts rest t u e h = let d : u ≡ t = cc in subst (λ k. Resumed ts k rest) d h
cleanup_on T P ts rest (Last t) (inr h) = inl (line_on T P ts rest (Last t) h)

cleanup_until_on : (T : Family) (P : Part Lexeme Placed) (ts rest : List Lexeme) (ss : List Kept) (t : EndingAt) → Until (CleanupLine T P) ts ss t rest → CleanupBody T P ts (ss, t) rest
cleanup_until_on T P ts rest [] t h = (ts, refl, cleanup_on T P ts rest (Last t) h)
cleanup_until_on T P ts rest (s ∷ ss) t h = let b = cleanup_until_on T P h.0 rest ss t h.2 in (b.0, (h.0, cleanup_on T P ts h.0 (More s) h.1, b.1), b.2)

cleanup_last : (T : Family) (P : Part Lexeme Placed) (ts rest : List Lexeme) (t : EndingAt) → Either (TerminatorOf T P) Resumed ts t rest → CleanupLine T P ts (Last t) rest
cleanup_last T P ts rest t (inl h) = inr (terminator_off T P ts rest t h)
cleanup_last T P ts rest t (inr h) = inl (t, refl, h)

cleanup_until_off : (T : Family) (P : Part Lexeme Placed) (ts mid rest : List Lexeme) (ss : List Kept) (t : EndingAt) → Each (StatementOf T P) ts ss mid → Either (TerminatorOf T P) Resumed mid t rest → Until (CleanupLine T P) ts ss t rest
cleanup_until_off T P ts mid rest [] t h e = cleanup_last T P ts rest t (subst (λ k. Either (TerminatorOf T P) Resumed k t rest) h e)
cleanup_until_off T P ts mid rest (s ∷ ss) t h e = (h.0, inr (statement_off T P ts h.0 s h.1), cleanup_until_off T P h.0 mid rest ss t h.2 e)

pub cleanup_body_on : (T : Family) (P : Part Lexeme Placed) → Within (Lines (CleanupLine T P)) (CleanupBody T P)
cleanup_body_on T P ts rest v h = cleanup_until_on T P ts rest v.0 v.1 h

pub cleanup_body_off : (T : Family) (P : Part Lexeme Placed) → Within (CleanupBody T P) (Lines (CleanupLine T P))
cleanup_body_off T P ts rest v h = cleanup_until_off T P ts h.0 rest v.0 v.1 h.1 h.2
