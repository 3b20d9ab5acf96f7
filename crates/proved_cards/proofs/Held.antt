-- P3, P8 and P13 meet demand 3's premises and its conclusion, by computation: the statement is not empty; and what the old operation makes of P13 does not meet
-- straight shortening's. Assumes nothing.
use Rattle.std.specs.Prelude.{Ok}
use mathlib.Core.Path.{◌≡◌, refl, ap}
use mathlib.Core.Bool.{true, false≢true}
use mathlib.Core.List.{[], ◌∷◌}
use Rattle.wire.specs.Numbers.{le, num, same_bytes}
use Rattle.records.specs.Record.{leaf, node, nil, ◌▸◌, text, field, deep, encode, parse, nth, tree, set_nth, ◌▸▸◌, count, skip, first, FoldLeft, map_all}
use Rattle.records.specs.Kinds.{row_of, content_at}
use Rattle.records.specs.Reading.{read, reading}
use Rattle.rast.specs.Path.{same_path}
use Rattle.rast.specs.Mod.{Mod-as-Fold}
use Rattle.rast.specs.Fold.{Fold}
use Rattle.rast.specs.Replace.{Replace}
use Rattle.rast.specs.Visitor.{VisitType, VisitTypeParams, VisitFields, VisitFn, VisitMember, VisitBody, VisitImplMapping, VisitUse, VisitTopFn, VisitTraitDecl}
use Rattle.rast.specs.Visitor.{VisitStructMapping, VisitModMapping, VisitMod}
use Rattle.rast.specs.Replacer.{ReplaceType, ReplaceExpr, ReplaceFields, ReplaceTypeParams, ReplaceFn, ReplaceImplMember, ReplaceBody, ReplaceUse, ReplaceTopFn}
use Rattle.rast.specs.Replacer.{ReplaceTrait, ReplaceImplDecl, ReplaceEnumCase, ReplaceEnum, ReplaceConst, ReplaceTypeDecl, ReplaceStruct, ReplaceModDecl}
use Rattle.rast.specs.Replacer.{ReplaceMod}
use Rattle.factor_paths.specs.Mapping.{get, set, ◌among◌, Add, ToFinalReplacement, ToUseStatements, pairs}
use Rattle.factor_paths.specs.PathsVisitor.{VisitTypeSingle, VisitExprSingle, VisitTraitName, VisitModDeclSingle}
use Rattle.factor_paths.specs.Apply.{replaces, ReplaceTypeSingle, ReplaceExprSingle, PathSimplifier, mappings, paths_to_remove, imports, apply_prefix, apply}
use Rattle.records.specs.Kinds.{mod'}
use Rattle.rast.specs.Final.{is_among, final_path}
use Rattle.rast.specs.Operation.{upstream, straight}
use Rattle.factor_paths.specs.Walk.{synonyms}
use Rattle.factor_paths.specs.LookUp.{UseDecls, unmarked_all, names_borne, look_up, has, different, collected}
use Rattle.points.specs.Points.{Point, outside}
use Rattle.proved_cards.specs.Builders.{Crate}
use Rattle.proved_cards.specs.Cards.{P3-card, P3-made, P8-card, P8-made, P13-card, P13-made}

-- the supposition holds of P3's module
P3-supposed : unmarked_all (collected upstream P3-card (node 0x13 (Crate ▸ leaf 0x01 (109 ∷ []) ▸ nil))) ≡ true
unfolding unmarked_all le num same_bytes deep encode parse nth tree set_nth ◌▸▸◌ count skip first FoldLeft map_all row_of content_at read reading same_path Mod-as-Fold
    Fold Replace VisitType VisitTypeParams VisitFields VisitFn VisitMember VisitBody VisitImplMapping VisitUse VisitTopFn VisitTraitDecl VisitStructMapping
    VisitModMapping VisitMod ReplaceType ReplaceExpr ReplaceFields ReplaceTypeParams ReplaceFn ReplaceImplMember ReplaceBody ReplaceUse ReplaceTopFn
    ReplaceTrait ReplaceImplDecl ReplaceEnumCase ReplaceEnum ReplaceConst ReplaceTypeDecl ReplaceStruct ReplaceModDecl ReplaceMod get set is_among final_path Add
    ToFinalReplacement ToUseStatements pairs VisitTypeSingle VisitExprSingle VisitTraitName VisitModDeclSingle replaces ReplaceTypeSingle ReplaceExprSingle
    PathSimplifier mappings paths_to_remove imports apply_prefix apply
P3-supposed = refl

pub P3-sound : reading 48 mod' (encode P3-card) ≡ Ok tt
unfolding le num same_bytes deep encode parse nth tree set_nth ◌▸▸◌ count skip first FoldLeft map_all row_of content_at read reading same_path Mod-as-Fold Fold Replace
    VisitType VisitTypeParams VisitFields VisitFn VisitMember VisitBody VisitImplMapping VisitUse VisitTopFn VisitTraitDecl VisitStructMapping VisitModMapping
    VisitMod ReplaceType ReplaceExpr ReplaceFields ReplaceTypeParams ReplaceFn ReplaceImplMember ReplaceBody ReplaceUse ReplaceTopFn ReplaceTrait
    ReplaceImplDecl ReplaceEnumCase ReplaceEnum ReplaceConst ReplaceTypeDecl ReplaceStruct ReplaceModDecl ReplaceMod get set is_among final_path Add
    ToFinalReplacement ToUseStatements pairs VisitTypeSingle VisitExprSingle VisitTraitName VisitModDeclSingle replaces ReplaceTypeSingle ReplaceExprSingle
    PathSimplifier mappings paths_to_remove imports apply_prefix apply
P3-sound = refl

pub P3-points : Point upstream (outside upstream Crate) P3-card P3-made
unfolding Point UseDecls synonyms unmarked_all names_borne look_up has different le num same_bytes deep encode parse nth tree set_nth ◌▸▸◌ count skip first FoldLeft
    map_all row_of content_at read reading same_path Mod-as-Fold Fold Replace VisitType VisitTypeParams VisitFields VisitFn VisitMember VisitBody VisitImplMapping
    VisitUse VisitTopFn VisitTraitDecl VisitStructMapping VisitModMapping VisitMod ReplaceType ReplaceExpr ReplaceFields ReplaceTypeParams ReplaceFn
    ReplaceImplMember ReplaceBody ReplaceUse ReplaceTopFn ReplaceTrait ReplaceImplDecl ReplaceEnumCase ReplaceEnum ReplaceConst ReplaceTypeDecl ReplaceStruct
    ReplaceModDecl ReplaceMod get set is_among final_path Add ToFinalReplacement ToUseStatements pairs VisitTypeSingle VisitExprSingle VisitTraitName
    VisitModDeclSingle replaces ReplaceTypeSingle ReplaceExprSingle PathSimplifier mappings paths_to_remove imports apply_prefix apply
P3-points = (
  refl,
  record { are_uses = (refl, refl, refl, tt); are_different = refl },
  (
    (refl, refl),
    (
      (refl, refl),
      (
        (refl, refl),
        (
          (
            refl,
            (
              (
                refl,
                (
                  (
                    refl,
                    (
                      (refl, tt),
                      (
                        record { name = 66 ∷ []; more = 0; wrapped = refl; once = λ z. refl; finds = λ u. refl },
                        ((refl, tt), tt),
                      ),
                    ),
                  ),
                  tt,
                ),
              ),
              tt,
            ),
          ),
          tt,
        ),
      ),
    ),
  ),
)

pub P8-points : Point upstream (outside upstream Crate) P8-card P8-made
unfolding Point UseDecls synonyms unmarked_all names_borne look_up has different le num same_bytes deep encode parse nth tree set_nth ◌▸▸◌ count skip first FoldLeft
    map_all row_of content_at read reading same_path Mod-as-Fold Fold Replace VisitType VisitTypeParams VisitFields VisitFn VisitMember VisitBody VisitImplMapping
    VisitUse VisitTopFn VisitTraitDecl VisitStructMapping VisitModMapping VisitMod ReplaceType ReplaceExpr ReplaceFields ReplaceTypeParams ReplaceFn
    ReplaceImplMember ReplaceBody ReplaceUse ReplaceTopFn ReplaceTrait ReplaceImplDecl ReplaceEnumCase ReplaceEnum ReplaceConst ReplaceTypeDecl ReplaceStruct
    ReplaceModDecl ReplaceMod get set is_among final_path Add ToFinalReplacement ToUseStatements pairs VisitTypeSingle VisitExprSingle VisitTraitName
    VisitModDeclSingle replaces ReplaceTypeSingle ReplaceExprSingle PathSimplifier mappings paths_to_remove imports apply_prefix apply
P8-points = (
  refl,
  record { are_uses = (refl, refl, refl, tt); are_different = refl },
  (
    (refl, refl),
    (
      (refl, refl),
      (
        (refl, refl),
        (
          (
            refl,
            (
              (
                refl,
                (
                  (
                    refl,
                    (
                      (refl, refl),
                      (
                        (refl, refl),
                        (
                          (refl, refl),
                          ((refl, tt), (record { name = 114 ∷ 100 ∷ 33 ∷ []; named = refl; finds = λ u. refl }, tt)),
                        ),
                      ),
                    ),
                  ),
                  tt,
                ),
              ),
              tt,
            ),
          ),
          tt,
        ),
      ),
    ),
  ),
)

-- in the nested module, under the prefix crate::m::b::b
pub P13-points : Point upstream (outside upstream Crate) P13-card P13-made
unfolding Point UseDecls synonyms unmarked_all names_borne look_up has different le num same_bytes deep encode parse nth tree set_nth ◌▸▸◌ count skip first FoldLeft
    map_all row_of content_at read reading same_path Mod-as-Fold Fold Replace VisitType VisitTypeParams VisitFields VisitFn VisitMember VisitBody VisitImplMapping
    VisitUse VisitTopFn VisitTraitDecl VisitStructMapping VisitModMapping VisitMod ReplaceType ReplaceExpr ReplaceFields ReplaceTypeParams ReplaceFn
    ReplaceImplMember ReplaceBody ReplaceUse ReplaceTopFn ReplaceTrait ReplaceImplDecl ReplaceEnumCase ReplaceEnum ReplaceConst ReplaceTypeDecl ReplaceStruct
    ReplaceModDecl ReplaceMod get set is_among final_path Add ToFinalReplacement ToUseStatements pairs VisitTypeSingle VisitExprSingle VisitTraitName
    VisitModDeclSingle replaces ReplaceTypeSingle ReplaceExprSingle PathSimplifier mappings paths_to_remove imports apply_prefix apply
P13-points = (
  refl,
  record { are_uses = tt; are_different = refl },
  (
    (refl, refl),
    (
      (refl, refl),
      (
        (refl, refl),
        (
          (
            refl,
            (
              (
                refl,
                (
                  (
                    refl,
                    record { are_uses = (refl, refl, refl, tt); are_different = refl },
                    (
                      (refl, refl),
                      (
                        (refl, refl),
                        (
                          (refl, refl),
                          (
                            (
                              refl,
                              (
                                (
                                  refl,
                                  (
                                    (
                                      refl,
                                      (
                                        (refl, refl),
                                        (
                                          (refl, refl),
                                          (
                                            (refl, refl),
                                            (
                                              record { name = 88 ∷ []; more = 0; wrapped = refl; once = λ z. refl; finds = λ u. refl },
                                              ((refl, ((refl, refl), tt)), tt),
                                            ),
                                          ),
                                        ),
                                      ),
                                    ),
                                    tt,
                                  ),
                                ),
                                (
                                  (
                                    refl,
                                    (
                                      (
                                        refl,
                                        (
                                          (refl, refl),
                                          (
                                            (refl, refl),
                                            (
                                              (refl, refl),
                                              (
                                                record { name = 89 ∷ []; more = 0; wrapped = refl; once = λ z. refl; finds = λ u. refl },
                                                ((refl, ((refl, refl), tt)), tt),
                                              ),
                                            ),
                                          ),
                                        ),
                                      ),
                                      tt,
                                    ),
                                  ),
                                  tt,
                                ),
                              ),
                            ),
                            tt,
                          ),
                        ),
                      ),
                    ),
                  ),
                  tt,
                ),
              ),
              tt,
            ),
          ),
          tt,
        ),
      ),
    ),
  ),
)

-- straight, X is looked up under crate::m::b, which gives another path
pub P13-refuted : Point straight (outside straight Crate) P13-card P13-made → ⊥
unfolding Point UseDecls synonyms unmarked_all names_borne look_up has different le num same_bytes deep encode parse nth tree set_nth ◌▸▸◌ count skip first FoldLeft
    map_all row_of content_at read reading same_path Mod-as-Fold Fold Replace VisitType VisitTypeParams VisitFields VisitFn VisitMember VisitBody VisitImplMapping
    VisitUse VisitTopFn VisitTraitDecl VisitStructMapping VisitModMapping VisitMod ReplaceType ReplaceExpr ReplaceFields ReplaceTypeParams ReplaceFn
    ReplaceImplMember ReplaceBody ReplaceUse ReplaceTopFn ReplaceTrait ReplaceImplDecl ReplaceEnumCase ReplaceEnum ReplaceConst ReplaceTypeDecl ReplaceStruct
    ReplaceModDecl ReplaceMod get set is_among final_path Add ToFinalReplacement ToUseStatements pairs VisitTypeSingle VisitExprSingle VisitTraitName
    VisitModDeclSingle replaces ReplaceTypeSingle ReplaceExprSingle PathSimplifier mappings paths_to_remove imports apply_prefix apply
P13-refuted h =
    let s = h.2.1.1.1.0.1.0.1.0.2.1.1.1.0.1.0.1.0.1.1.1.1.0 in
    let e : 88 ∷ [] ≡ s.name = ap (λ r. text (field 0 (field 0 r))) s.wrapped in
    false≢true (rw (← e) at (s.finds refl))
