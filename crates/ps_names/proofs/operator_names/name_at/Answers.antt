use Rattle.std.proofs.Common.{◌≤◌, take, drop, refl, arith}
use Rattle.ps_names.specs.declared.places.TheConstants as at
use Rattle.ps_names.specs.Operators.{operator_names, names_of, number_operators, bit_operators, text_operators, dict_operators, array_operators, control_operators, file_operators, memory_operators, matrix_operators, line_operators, colour_operators, path_operators, paint_operators, font_operators, error_names}
use Rattle.ps_names.proofs.Placed.{placed}
use Rattle.ps_names.proofs.operator_names.name_at.Goals as goal

pub returns-then-place-2-clause-name : goal.returns-then-place-2-clause-name
returns-then-place-2-clause-name c =
    let low : at.ADD ≤ c.args.place = let past = c.if-place.false in omega arith in
    placed (take at.ADD operator_names) (names_of number_operators) (drop at.RAND operator_names) at.ADD c.args.place c.number_name.result.now refl low c.number_name.ensures.name

pub returns-then-place-3-clause-name : goal.returns-then-place-3-clause-name
returns-then-place-3-clause-name c =
    let low : at.RAND ≤ c.args.place = let past = c.if-place-2.false in omega arith in
    placed (take at.RAND operator_names) (names_of bit_operators) (drop at.STRING operator_names) at.RAND c.args.place c.bit_name.result.now refl low c.bit_name.ensures.name

pub returns-then-place-4-clause-name : goal.returns-then-place-4-clause-name
returns-then-place-4-clause-name c =
    let low : at.STRING ≤ c.args.place = let past = c.if-place-3.false in omega arith in
    placed (take at.STRING operator_names) (names_of text_operators) (drop at.DICT operator_names) at.STRING c.args.place c.text_name.result.now refl low c.text_name.ensures.name

pub returns-then-place-5-clause-name : goal.returns-then-place-5-clause-name
returns-then-place-5-clause-name c =
    let low : at.DICT ≤ c.args.place = let past = c.if-place-4.false in omega arith in
    placed (take at.DICT operator_names) (names_of dict_operators) (drop at.ARRAY operator_names) at.DICT c.args.place c.dict_name.result.now refl low c.dict_name.ensures.name

pub returns-then-place-6-clause-name : goal.returns-then-place-6-clause-name
returns-then-place-6-clause-name c =
    let low : at.ARRAY ≤ c.args.place = let past = c.if-place-5.false in omega arith in
    placed (take at.ARRAY operator_names) (names_of array_operators) (drop at.EXEC operator_names) at.ARRAY c.args.place c.array_name.result.now refl low c.array_name.ensures.name

pub returns-then-place-7-clause-name : goal.returns-then-place-7-clause-name
returns-then-place-7-clause-name c =
    let low : at.EXEC ≤ c.args.place = let past = c.if-place-6.false in omega arith in
    placed (take at.EXEC operator_names) (names_of control_operators) (drop at.CURRENTFILE operator_names) at.EXEC c.args.place c.control_name.result.now refl low c.control_name.ensures.name

pub returns-then-place-8-clause-name : goal.returns-then-place-8-clause-name
returns-then-place-8-clause-name c =
    let low : at.CURRENTFILE ≤ c.args.place = let past = c.if-place-7.false in omega arith in
    placed (take at.CURRENTFILE operator_names) (names_of file_operators) (drop at.SAVE operator_names) at.CURRENTFILE c.args.place c.file_name.result.now refl low c.file_name.ensures.name

pub returns-then-place-9-clause-name : goal.returns-then-place-9-clause-name
returns-then-place-9-clause-name c =
    let low : at.SAVE ≤ c.args.place = let past = c.if-place-8.false in omega arith in
    placed (take at.SAVE operator_names) (names_of memory_operators) (drop at.MATRIX operator_names) at.SAVE c.args.place c.memory_name.result.now refl low c.memory_name.ensures.name

pub returns-then-place-10-clause-name : goal.returns-then-place-10-clause-name
returns-then-place-10-clause-name c =
    let low : at.MATRIX ≤ c.args.place = let past = c.if-place-9.false in omega arith in
    placed (take at.MATRIX operator_names) (names_of matrix_operators) (drop at.GSAVE operator_names) at.MATRIX c.args.place c.matrix_name.result.now refl low c.matrix_name.ensures.name

pub returns-then-place-11-clause-name : goal.returns-then-place-11-clause-name
returns-then-place-11-clause-name c =
    let low : at.GSAVE ≤ c.args.place = let past = c.if-place-10.false in omega arith in
    placed (take at.GSAVE operator_names) (names_of line_operators) (drop at.SETGRAY operator_names) at.GSAVE c.args.place c.line_name.result.now refl low c.line_name.ensures.name

pub returns-then-place-12-clause-name : goal.returns-then-place-12-clause-name
returns-then-place-12-clause-name c =
    let low : at.SETGRAY ≤ c.args.place = let past = c.if-place-11.false in omega arith in
    placed (take at.SETGRAY operator_names) (names_of colour_operators) (drop at.NEWPATH operator_names) at.SETGRAY c.args.place c.colour_name.result.now refl low c.colour_name.ensures.name

pub returns-then-place-13-clause-name : goal.returns-then-place-13-clause-name
returns-then-place-13-clause-name c =
    let low : at.NEWPATH ≤ c.args.place = let past = c.if-place-12.false in omega arith in
    placed (take at.NEWPATH operator_names) (names_of path_operators) (drop at.FILL operator_names) at.NEWPATH c.args.place c.path_name.result.now refl low c.path_name.ensures.name

pub returns-then-place-14-clause-name : goal.returns-then-place-14-clause-name
returns-then-place-14-clause-name c =
    let low : at.FILL ≤ c.args.place = let past = c.if-place-13.false in omega arith in
    placed (take at.FILL operator_names) (names_of paint_operators) (drop at.DEFINEFONT operator_names) at.FILL c.args.place c.paint_name.result.now refl low c.paint_name.ensures.name

pub returns-then-place-15-clause-name : goal.returns-then-place-15-clause-name
returns-then-place-15-clause-name c =
    let low : at.DEFINEFONT ≤ c.args.place = let past = c.if-place-14.false in omega arith in
    placed (take at.DEFINEFONT operator_names) (names_of font_operators) (drop at.FIRST_DEFAULT_ENTRY operator_names) at.DEFINEFONT c.args.place c.font_name.result.now refl low c.font_name.ensures.name

pub returns-else-place-15-clause-name : goal.returns-else-place-15-clause-name
returns-else-place-15-clause-name c =
    let low : at.FIRST_DEFAULT_ENTRY ≤ c.args.place = let past = c.if-place-15.false in omega arith in
    placed (take at.FIRST_DEFAULT_ENTRY operator_names) error_names (drop at.OPERATOR_COUNT operator_names) at.FIRST_DEFAULT_ENTRY c.args.place c.error_name.result.now refl low c.error_name.ensures.name
