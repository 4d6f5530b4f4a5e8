-- The table of the operators: the place and the name of each, and of each error its name.
use Rattle.std.specs.Prelude.{ℕ, List, [], ◌∷◌, ◌++◌, map, codes}
use Rattle.ps_names.specs.declared.error_name.ErrorName.{ErrorName}
use Rattle.ps_names.specs.declared.error_name.ErrorName.TheVariants as error
use Rattle.ps_names.specs.declared.places.TheConstants as at

-- the operand stack
abbrev pub stack_operators : List (ℕ × List ℕ)
stack_operators =
    (at.POP, codes "pop") ∷ (at.EXCH, codes "exch") ∷ (at.DUP, codes "dup") ∷ (at.COUNT, codes "count") ∷ (at.CLEAR, codes "clear") ∷
    (at.INDEX, codes "index") ∷ (at.ROLL, codes "roll") ∷ (at.MARK, codes "mark") ∷ (at.LEFT_BRACKET, codes "[") ∷
    (at.LEFT_ANGLES, codes "<<") ∷ (at.CLEARTOMARK, codes "cleartomark") ∷ (at.COUNTTOMARK, codes "counttomark") ∷ []

-- arithmetic
abbrev pub number_operators : List (ℕ × List ℕ)
number_operators =
    (at.ADD, codes "add") ∷ (at.SUB, codes "sub") ∷ (at.MUL, codes "mul") ∷ (at.DIV, codes "div") ∷ (at.IDIV, codes "idiv") ∷
    (at.MOD, codes "mod") ∷ (at.ABS, codes "abs") ∷ (at.NEG, codes "neg") ∷ (at.CEILING, codes "ceiling") ∷ (at.FLOOR, codes "floor") ∷
    (at.ROUND, codes "round") ∷ (at.TRUNCATE, codes "truncate") ∷ (at.SQRT, codes "sqrt") ∷ (at.SIN, codes "sin") ∷ (at.COS, codes "cos") ∷
    (at.ATAN, codes "atan") ∷ []

-- random numbers, comparisons and bits
abbrev pub bit_operators : List (ℕ × List ℕ)
bit_operators =
    (at.RAND, codes "rand") ∷ (at.SRAND, codes "srand") ∷ (at.RRAND, codes "rrand") ∷ (at.EQ, codes "eq") ∷ (at.NE, codes "ne") ∷
    (at.GT, codes "gt") ∷ (at.GE, codes "ge") ∷ (at.LT, codes "lt") ∷ (at.LE, codes "le") ∷ (at.AND, codes "and") ∷ (at.OR, codes "or") ∷
    (at.XOR, codes "xor") ∷ (at.NOT, codes "not") ∷ (at.BITSHIFT, codes "bitshift") ∷ []

-- strings and messages
abbrev pub text_operators : List (ℕ × List ℕ)
text_operators =
    (at.STRING, codes "string") ∷ (at.SEARCH, codes "search") ∷ (at.ANCHORSEARCH, codes "anchorsearch") ∷ (at.CVS, codes "cvs") ∷
    (at.CVRS, codes "cvrs") ∷ (at.CVN, codes "cvn") ∷ (at.CVI, codes "cvi") ∷ (at.CVR, codes "cvr") ∷ (at.PRINT, codes "print") ∷
    (at.EQUALS_SIGN, codes "=") ∷ (at.TWO_EQUALS_SIGNS, codes "==") ∷ (at.STACK, codes "stack") ∷ (at.PSTACK, codes "pstack") ∷ []

-- dictionaries
abbrev pub dict_operators : List (ℕ × List ℕ)
dict_operators =
    (at.DICT, codes "dict") ∷ (at.RIGHT_ANGLES, codes ">>") ∷ (at.LENGTH, codes "length") ∷ (at.MAXLENGTH, codes "maxlength") ∷
    (at.GET, codes "get") ∷ (at.PUT, codes "put") ∷ (at.COPY, codes "copy") ∷ (at.BEGIN, codes "begin") ∷ (at.END, codes "end") ∷
    (at.DEF, codes "def") ∷ (at.LOAD, codes "load") ∷ (at.STORE, codes "store") ∷ (at.KNOWN, codes "known") ∷ (at.WHERE, codes "where") ∷
    (at.UNDEF, codes "undef") ∷ (at.CURRENTDICT, codes "currentdict") ∷ (at.COUNTDICTSTACK, codes "countdictstack") ∷
    (at.CLEARDICTSTACK, codes "cleardictstack") ∷ (at.DICTSTACK, codes "dictstack") ∷ []

-- arrays, types and attributes
abbrev pub array_operators : List (ℕ × List ℕ)
array_operators =
    (at.ARRAY, codes "array") ∷ (at.RIGHT_BRACKET, codes "]") ∷ (at.PACKEDARRAY, codes "packedarray") ∷
    (at.SETPACKING, codes "setpacking") ∷ (at.CURRENTPACKING, codes "currentpacking") ∷ (at.GETINTERVAL, codes "getinterval") ∷
    (at.PUTINTERVAL, codes "putinterval") ∷ (at.ALOAD, codes "aload") ∷ (at.ASTORE, codes "astore") ∷ (at.TYPE, codes "type") ∷
    (at.CVLIT, codes "cvlit") ∷ (at.CVX, codes "cvx") ∷ (at.XCHECK, codes "xcheck") ∷ (at.EXECUTEONLY, codes "executeonly") ∷
    (at.READONLY, codes "readonly") ∷ (at.NOACCESS, codes "noaccess") ∷ (at.RCHECK, codes "rcheck") ∷ (at.WCHECK, codes "wcheck") ∷
    (at.GCHECK, codes "gcheck") ∷ (at.BIND, codes "bind") ∷ []

-- control
abbrev pub control_operators : List (ℕ × List ℕ)
control_operators =
    (at.EXEC, codes "exec") ∷ (at.IF, codes "if") ∷ (at.IFELSE, codes "ifelse") ∷ (at.FOR, codes "for") ∷ (at.REPEAT, codes "repeat") ∷
    (at.LOOP, codes "loop") ∷ (at.FORALL, codes "forall") ∷ (at.EXIT, codes "exit") ∷ (at.STOP, codes "stop") ∷ (at.QUIT, codes "quit") ∷
    (at.STOPPED, codes "stopped") ∷ []

-- files
abbrev pub file_operators : List (ℕ × List ℕ)
file_operators =
    (at.CURRENTFILE, codes "currentfile") ∷ (at.STATUS, codes "status") ∷ (at.BYTESAVAILABLE, codes "bytesavailable") ∷
    (at.READ, codes "read") ∷ (at.READSTRING, codes "readstring") ∷ (at.READHEXSTRING, codes "readhexstring") ∷
    (at.READLINE, codes "readline") ∷ (at.TOKEN, codes "token") ∷ (at.CLOSEFILE, codes "closefile") ∷ (at.FLUSHFILE, codes "flushfile") ∷
    (at.FLUSH, codes "flush") ∷ []

-- memory and time
abbrev pub memory_operators : List (ℕ × List ℕ)
memory_operators =
    (at.SAVE, codes "save") ∷ (at.RESTORE, codes "restore") ∷ (at.SETGLOBAL, codes "setglobal") ∷
    (at.CURRENTGLOBAL, codes "currentglobal") ∷ (at.VMSTATUS, codes "vmstatus") ∷ (at.VMRECLAIM, codes "vmreclaim") ∷
    (at.REALTIME, codes "realtime") ∷ (at.USERTIME, codes "usertime") ∷ []

-- matrices
abbrev pub matrix_operators : List (ℕ × List ℕ)
matrix_operators =
    (at.MATRIX, codes "matrix") ∷ (at.IDENTMATRIX, codes "identmatrix") ∷ (at.DEFAULTMATRIX, codes "defaultmatrix") ∷
    (at.CURRENTMATRIX, codes "currentmatrix") ∷ (at.SETMATRIX, codes "setmatrix") ∷ (at.INITMATRIX, codes "initmatrix") ∷
    (at.TRANSLATE, codes "translate") ∷ (at.SCALE, codes "scale") ∷ (at.ROTATE, codes "rotate") ∷ (at.CONCAT, codes "concat") ∷
    (at.CONCATMATRIX, codes "concatmatrix") ∷ (at.INVERTMATRIX, codes "invertmatrix") ∷ (at.TRANSFORM, codes "transform") ∷
    (at.DTRANSFORM, codes "dtransform") ∷ (at.ITRANSFORM, codes "itransform") ∷ (at.IDTRANSFORM, codes "idtransform") ∷ []

-- the graphics state and lines
abbrev pub line_operators : List (ℕ × List ℕ)
line_operators =
    (at.GSAVE, codes "gsave") ∷ (at.GRESTORE, codes "grestore") ∷ (at.GRESTOREALL, codes "grestoreall") ∷
    (at.INITGRAPHICS, codes "initgraphics") ∷ (at.SETLINEWIDTH, codes "setlinewidth") ∷ (at.SETLINECAP, codes "setlinecap") ∷
    (at.SETLINEJOIN, codes "setlinejoin") ∷ (at.SETMITERLIMIT, codes "setmiterlimit") ∷ (at.SETFLAT, codes "setflat") ∷
    (at.SETSTROKEADJUST, codes "setstrokeadjust") ∷ (at.CURRENTLINEWIDTH, codes "currentlinewidth") ∷
    (at.CURRENTLINECAP, codes "currentlinecap") ∷ (at.CURRENTLINEJOIN, codes "currentlinejoin") ∷
    (at.CURRENTMITERLIMIT, codes "currentmiterlimit") ∷ (at.CURRENTFLAT, codes "currentflat") ∷
    (at.CURRENTSTROKEADJUST, codes "currentstrokeadjust") ∷ (at.SETDASH, codes "setdash") ∷ (at.CURRENTDASH, codes "currentdash") ∷ []

-- colours and screens
abbrev pub colour_operators : List (ℕ × List ℕ)
colour_operators =
    (at.SETGRAY, codes "setgray") ∷ (at.SETRGBCOLOR, codes "setrgbcolor") ∷ (at.SETCMYKCOLOR, codes "setcmykcolor") ∷
    (at.CURRENTGRAY, codes "currentgray") ∷ (at.CURRENTRGBCOLOR, codes "currentrgbcolor") ∷
    (at.CURRENTCMYKCOLOR, codes "currentcmykcolor") ∷ (at.SETCOLORSPACE, codes "setcolorspace") ∷
    (at.CURRENTCOLORSPACE, codes "currentcolorspace") ∷ (at.SETCOLOR, codes "setcolor") ∷ (at.CURRENTCOLOR, codes "currentcolor") ∷
    (at.SETSCREEN, codes "setscreen") ∷ (at.CURRENTSCREEN, codes "currentscreen") ∷ (at.SETTRANSFER, codes "settransfer") ∷
    (at.CURRENTTRANSFER, codes "currenttransfer") ∷ (at.SETHALFTONE, codes "sethalftone") ∷ (at.CURRENTHALFTONE, codes "currenthalftone") ∷
    []

-- paths and clips
abbrev pub path_operators : List (ℕ × List ℕ)
path_operators =
    (at.NEWPATH, codes "newpath") ∷ (at.CURRENTPOINT, codes "currentpoint") ∷ (at.MOVETO, codes "moveto") ∷ (at.RMOVETO, codes "rmoveto") ∷
    (at.LINETO, codes "lineto") ∷ (at.RLINETO, codes "rlineto") ∷ (at.CURVETO, codes "curveto") ∷ (at.RCURVETO, codes "rcurveto") ∷
    (at.ARC, codes "arc") ∷ (at.ARCN, codes "arcn") ∷ (at.CLOSEPATH, codes "closepath") ∷ (at.FLATTENPATH, codes "flattenpath") ∷
    (at.CLIPPATH, codes "clippath") ∷ (at.PATHBBOX, codes "pathbbox") ∷ (at.PATHFORALL, codes "pathforall") ∷
    (at.INITCLIP, codes "initclip") ∷ (at.CLIP, codes "clip") ∷ (at.EOCLIP, codes "eoclip") ∷ (at.RECTCLIP, codes "rectclip") ∷ []

-- painting and images
abbrev pub paint_operators : List (ℕ × List ℕ)
paint_operators =
    (at.FILL, codes "fill") ∷ (at.EOFILL, codes "eofill") ∷ (at.STROKE, codes "stroke") ∷ (at.RECTFILL, codes "rectfill") ∷
    (at.RECTSTROKE, codes "rectstroke") ∷ (at.ERASEPAGE, codes "erasepage") ∷ (at.SHOWPAGE, codes "showpage") ∷
    (at.COPYPAGE, codes "copypage") ∷ (at.IMAGE, codes "image") ∷ (at.IMAGEMASK, codes "imagemask") ∷ []

-- fonts
abbrev pub font_operators : List (ℕ × List ℕ)
font_operators =
    (at.DEFINEFONT, codes "definefont") ∷ (at.UNDEFINEFONT, codes "undefinefont") ∷ (at.FINDFONT, codes "findfont") ∷
    (at.SCALEFONT, codes "scalefont") ∷ (at.MAKEFONT, codes "makefont") ∷ (at.SETFONT, codes "setfont") ∷
    (at.CURRENTFONT, codes "currentfont") ∷ (at.SELECTFONT, codes "selectfont") ∷ (at.SHOW, codes "show") ∷ (at.ASHOW, codes "ashow") ∷
    (at.WIDTHSHOW, codes "widthshow") ∷ (at.AWIDTHSHOW, codes "awidthshow") ∷ (at.KSHOW, codes "kshow") ∷
    (at.STRINGWIDTH, codes "stringwidth") ∷ (at.SETCHARWIDTH, codes "setcharwidth") ∷ (at.SETCACHEDEVICE, codes "setcachedevice") ∷ []

-- all operators but the default entries of errors, in the order of their places
abbrev pub operators : List (ℕ × List ℕ)
operators =
    stack_operators ++ number_operators ++ bit_operators ++ text_operators ++ dict_operators ++ array_operators ++ control_operators ++
    file_operators ++ memory_operators ++ matrix_operators ++ line_operators ++ colour_operators ++ path_operators ++ paint_operators ++
    font_operators

-- the errors, in the order of their default entries
abbrev pub errors : List (ErrorName × List ℕ)
errors =
    (error.DictStackOverflow, codes "dictstackoverflow") ∷ (error.DictStackUnderflow, codes "dictstackunderflow") ∷
    (error.ExecStackOverflow, codes "execstackoverflow") ∷ (error.InvalidAccess, codes "invalidaccess") ∷
    (error.InvalidExit, codes "invalidexit") ∷ (error.InvalidFont, codes "invalidfont") ∷ (error.InvalidRestore, codes "invalidrestore") ∷
    (error.IoError, codes "ioerror") ∷ (error.LimitCheck, codes "limitcheck") ∷ (error.NoCurrentPoint, codes "nocurrentpoint") ∷
    (error.RangeCheck, codes "rangecheck") ∷ (error.StackOverflow, codes "stackoverflow") ∷ (error.StackUnderflow, codes "stackunderflow") ∷
    (error.SyntaxError, codes "syntaxerror") ∷ (error.Timeout, codes "timeout") ∷ (error.TypeCheck, codes "typecheck") ∷
    (error.Undefined, codes "undefined") ∷ (error.UndefinedResult, codes "undefinedresult") ∷ (error.UnmatchedMark, codes "unmatchedmark") ∷
    (error.VmError, codes "VMerror") ∷ []

-- the names in a table
abbrev pub names_of : {A : Type 0} → List (A × List ℕ) → List (List ℕ)
names_of = map (λ line. line.1)

-- the names of the errors, which are those of their default entries
abbrev pub error_names : List (List ℕ)
error_names = names_of errors

-- the names of all operators, by their places
abbrev pub operator_names : List (List ℕ)
operator_names = names_of operators ++ error_names
